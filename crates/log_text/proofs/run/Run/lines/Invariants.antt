use Rattle.std.proofs.Common.{length}
use Rattle.log_text.specs.Running.{HasTakenLines}
use Rattle.log_text.proofs.run.Run.lines.Given as goal

-- the lines before the rest were read
abbrev pub invariant-loop-line : goal.invariant-loop-line
invariant-loop-line l = HasTakenLines l.fn.self l.self l.bytes l.rest

abbrev pub decreases-loop-line : goal.decreases-loop-line
decreases-loop-line l = length l.rest
