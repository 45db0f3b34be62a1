use Rattle.cycle_detect.proofs.Visiting.{after}
use Rattle.order_solver.proofs.Working.{IsWalking}
use Rattle.order_solver.proofs.solver.OrderSolver.hold_literal.Given as goal

abbrev pub invariant-loop-next : goal.invariant-loop-next
invariant-loop-next g l = IsWalking l.problem l.fn.lit l.next l.fn.self l.self

abbrev pub decreases-loop-next : goal.decreases-loop-next
decreases-loop-next g l = after l.next
