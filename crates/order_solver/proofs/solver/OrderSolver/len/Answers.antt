use Rattle.std.proofs.Common.{arith}
use Rattle.order_solver.proofs.solver.OrderSolver.len.Goals as goal

pub overflow_cast-result : goal.overflow_cast-result
overflow_cast-result c = let long = c.self.inside.asserted.ok.0 in omega (arith, c.len.ensures, long, c.self.invariant.2)
