use Rattle.bv_term.proofs.ValueLaws.{value_by_term}
use Rattle.bv_term.proofs.laws.values_by_terms.Goals as goal

pub returns : goal.returns
returns c = value_by_term
