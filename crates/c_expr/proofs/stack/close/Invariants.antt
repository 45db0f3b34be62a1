use Rattle.std.proofs.Common.{◌≡◌, length, reverse}
use Rattle.c_expr.specs.Machine as machine
use Rattle.c_expr.proofs.stack.close.Given as goal

abbrev pub invariant-loop-frame : goal.invariant-loop-frame
invariant-loop-frame l = machine.close l.level l.tree (reverse l.stack) ≡ machine.close l.fn.level l.fn.tree (reverse l.fn.stack)

abbrev pub decreases-loop-frame : goal.decreases-loop-frame
decreases-loop-frame l = length l.stack
