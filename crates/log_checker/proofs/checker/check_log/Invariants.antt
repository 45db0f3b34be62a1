use Rattle.std.proofs.Common.{take}
use Rattle.log_checker.specs.Checking.{HasTaken}
use Rattle.log_checker.proofs.checker.check_log.Given as goal

-- the entries passed were taken
abbrev pub invariant-loop-entry : goal.invariant-loop-entry
invariant-loop-entry l = HasTaken l.problem (take l.entry-index l.log.entries) l.checker
