use Rattle.std.proofs.Common.{◌≡◌, ℕ, Option, Some, length, drop}
use Rattle.std.specs.Prelude.{slice_get}
use Rattle.encode_match.specs.Spelling.{handles_in}
use Rattle.decode.specs.Tables.{listed}
use Rattle.decode.proofs.threads.handles.Given as goal

abbrev pub invariant-loop-place : goal.invariant-loop-place
invariant-loop-place l = record {
  counted : length l.handles ≡ l.count;
  each : (i : ℕ) (h : Option ℕ) → slice_get l.handles i ≡ Some h → listed h ≡ handles_in l.truths i (drop l.place l.events) (drop l.place l.bits);
}
