use Rattle.bv_term.proofs.ValueLaws.{grows_steps}
use Rattle.bv_term.proofs.laws.growth_composes.Goals as goal

pub returns : goal.returns
returns c = grows_steps
