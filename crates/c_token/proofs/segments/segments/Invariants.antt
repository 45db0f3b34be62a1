use Rattle.std.proofs.Common.{length, map}
use Rattle.c_token.specs.Seen.{segment}
use Rattle.c_token.proofs.segments.segments.Given as goal
use Rattle.c_token.proofs.Splitting.{Splits}

abbrev pub invariant-loop-rest : goal.invariant-loop-rest
invariant-loop-rest l = Splits l.text (map segment l.parts) l.mode l.place l.rest

abbrev pub decreases-loop-rest : goal.decreases-loop-rest
decreases-loop-rest l = length l.rest
