use Rattle.axiom_model.proofs.Forwards.{ordered-no_cycle}
use Rattle.axiom_model.proofs.laws.forward_lists_exclude_cycles.Goals as goal

pub returns : goal.returns
returns c = ordered-no_cycle
