use Rattle.std.proofs.Common.{length}
use Rattle.log_tests.proofs.pieces.told_in_pieces.Given as goal

abbrev pub decreases-loop-rest : goal.decreases-loop-rest
decreases-loop-rest l = length l.rest
