use Rattle.std.proofs.Common.{◌≡◌, ℕ, ◌≤◌, ◌-◌, Option, Some, None, length}
use Rattle.std.specs.Prelude.{slice_get}
use Rattle.decode.proofs.threads.no_handles.Given as goal

abbrev pub invariant-loop-handles : goal.invariant-loop-handles
invariant-loop-handles l = record {
  low : length l.handles ≤ l.count;
  none : (i : ℕ) (h : Option ℕ) → slice_get l.handles i ≡ Some h → h ≡ None;
}

abbrev pub decreases-loop-handles : goal.decreases-loop-handles
decreases-loop-handles l = l.count - length l.handles
