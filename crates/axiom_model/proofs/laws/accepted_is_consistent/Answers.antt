use Rattle.axiom_model.proofs.Acceptance.{accepted-consistent}
use Rattle.axiom_model.proofs.laws.accepted_is_consistent.Goals as goal

pub returns : goal.returns
returns c = accepted-consistent
