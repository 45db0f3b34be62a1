use Rattle.std.proofs.Common.{◌≡◌, length, reverse}
use Rattle.c_stmt.specs.Machine as machine
use Rattle.c_stmt.proofs.blocks.close.Given as goal

abbrev pub invariant-loop-frame : goal.invariant-loop-frame
invariant-loop-frame l = machine.close l.other l.body (reverse l.stack) ≡ machine.close l.fn.other l.fn.body (reverse l.fn.stack)

abbrev pub decreases-loop-frame : goal.decreases-loop-frame
decreases-loop-frame l = length l.stack
