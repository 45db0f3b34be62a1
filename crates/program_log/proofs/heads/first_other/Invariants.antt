use Rattle.std.proofs.Common.{◌≡◌, take}
use Rattle.log_text.specs.Formats.{head_lines}
use Rattle.program_log.specs.declared.heads.TheConstants.{LINES}
use Rattle.program_log.proofs.heads.first_other.Given as goal

abbrev pub invariant-loop-place : goal.invariant-loop-place
invariant-loop-place l = (l.line-items ≡ LINES) × (take l.place (head_lines l.theirs) ≡ take l.place (head_lines l.ours))
