use Rattle.std.proofs.Common.{◌≡◌, ◌≢◌, ℕ, ◌+◌, ◌<◌, true, Some}
use Rattle.std.specs.Prelude.{slice_get}
use Rattle.cycle_detect.specs.declared.search.Visit.{Visit}
use Rattle.cycle_detect.specs.Parts.{is_seen}
use Rattle.cycle_detect.proofs.search.forget.Given as goal

abbrev pub invariant-loop-visit : goal.invariant-loop-visit
invariant-loop-visit g l = record {
  left : (n : ℕ) → is_seen l.seen n ≡ true → (is_seen l.fn.seen n ≡ true) × ((i : ℕ) (v : Visit) → i < l.visit-index → slice_get l.visits i ≡ Some v → v.node ≢ n);
  ticks : l.steps ≡ l.fn.steps + l.visit-index;
}
