use Rattle.c_check.specs.Ordering.{Holds}
use Rattle.c_check.proofs.function_counts.fill.Given as goal

abbrev pub invariant-loop-left : goal.invariant-loop-left
invariant-loop-left l = Holds l.k l.items l.order l.table l.left

abbrev pub decreases-loop-left : goal.decreases-loop-left
decreases-loop-left l = l.left
