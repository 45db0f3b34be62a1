use Rattle.std.proofs.Common.{◌≡◌, ℕ, ◌<◌, ◌≤◌, ◌-◌, length}
use Rattle.std.specs.Prelude.{slice_get}
use Rattle.decode.proofs.relations.put.Given as goal

abbrev pub invariant-loop-line : goal.invariant-loop-line
invariant-loop-line l = record {
  grows : length l.initial.line ≤ length l.line;
  kept : (k : ℕ) → k < length l.initial.line → slice_get l.line k ≡ slice_get l.initial.line k;
  short : (m : ℕ) → length l.initial.line ≤ m → l.place < m → length l.line ≤ m;
}

abbrev pub decreases-loop-line : goal.decreases-loop-line
decreases-loop-line l = l.place - length l.line
