-- The entries that were given were taken.
use Rattle.std.proofs.Common.{ℕ, List, length}
use Rattle.cnf_problem.specs.declared.problem.Head.{Head}
use Rattle.program_log.specs.Pieces.{HasStanding}
use Rattle.program_log.proofs.standing.take_all.Given as goal

abbrev pub invariant-loop-entry : goal.invariant-loop-entry
invariant-loop-entry l = (ours : Head) (fed : List ℕ) → HasStanding l.problem ours l.fn.reader fed l.fn.standing → HasStanding l.problem ours l.reader fed l.now

abbrev pub decreases-loop-entry : goal.decreases-loop-entry
decreases-loop-entry l = length l.reader.ready
