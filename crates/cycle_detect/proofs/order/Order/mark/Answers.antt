use Rattle.cycle_detect.proofs.Paths.{kept_acyclic}
use Rattle.cycle_detect.proofs.order.Order.mark.Goals as goal

pub returns-clause-acyclic : goal.returns-clause-acyclic
returns-clause-acyclic c = rw (← c.self.view_is) (kept_acyclic _ c.self.invariant.0.kept)
