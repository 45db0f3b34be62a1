use Rattle.order_solver.proofs.Checking.{IsLooking}
use Rattle.order_solver.proofs.solver.OrderSolver.propagate.Given as goal

abbrev pub invariant-loop-atom : goal.invariant-loop-atom
invariant-loop-atom g l = IsLooking l.problem l.fn.self.asserted l.atom l.self
