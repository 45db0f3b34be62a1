-- What was read is the text without what is left.
use Rattle.std.proofs.Common.{◌≡◌, ℕ, List, ◌++◌, length}
use Rattle.program_log.specs.Pieces.{IsBetween}
use Rattle.program_log.proofs.checking.read_pieces.Given as goal

abbrev pub invariant-loop-rest : goal.invariant-loop-rest
invariant-loop-rest l = record {
  fed : List ℕ;
  parts : l.fn.text ≡ fed ++ l.rest;
  between : IsBetween l.problem l.ours l.reader fed l.standing;
}

abbrev pub decreases-loop-rest : goal.decreases-loop-rest
decreases-loop-rest l = length l.rest
