use Rattle.std.proofs.Common.{◌≡◌, ◌-◌, false, length}
use Rattle.order_solver.specs.Ordering.{IsOrdering}
use Rattle.order_solver.specs.Working.{IsPlaceOf}
use Rattle.order_solver.proofs.solver.OrderSolver.check.Given as goal

abbrev pub invariant-loop-alloc : goal.invariant-loop-alloc
invariant-loop-alloc g l = record {
  fits : IsOrdering l.problem l.self;
  place : IsPlaceOf l.self l.place;
  asserted : l.self.asserted ≡ l.fn.self.asserted;
  going : l.self.stuck ≡ false;
}

abbrev pub decreases-loop-alloc : goal.decreases-loop-alloc
decreases-loop-alloc g l = length l.self.asserted - length l.self.marks
