use Rattle.bv_term.proofs.ValueLaws.{value_fits}
use Rattle.bv_term.proofs.laws.values_are_words.Goals as goal

pub returns : goal.returns
returns c = value_fits
