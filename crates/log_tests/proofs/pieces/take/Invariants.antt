use Rattle.std.proofs.Common.{length}
use Rattle.log_tests.proofs.pieces.take.Given as goal

abbrev pub decreases-loop-entry : goal.decreases-loop-entry
decreases-loop-entry l = length l.reader.ready
