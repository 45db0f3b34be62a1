use Rattle.std.proofs.Common.{◌≡◌, length}
use Rattle.order_solver.proofs.Deriving.{IsDeriving}
use Rattle.order_solver.proofs.solver.OrderSolver.hold_derived.Given as goal

abbrev pub invariant-loop-i : goal.invariant-loop-i
invariant-loop-i g l = record {
  walk : IsDeriving l.fn.atom l.i l.fn.self l.self;
  end : l.i-end ≡ length l.self.froms.derived;
}
