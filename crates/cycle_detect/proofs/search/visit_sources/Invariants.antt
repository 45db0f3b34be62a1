use Rattle.std.proofs.Common.{◌≡◌, ◌⊎◌, ℕ, ◌+◌, ◌≤◌, true, Some, take, vec_capacity}
use Rattle.std.specs.Prelude.{slice_get, slice_index, count_by}
use Rattle.cycle_detect.specs.declared.search.Visit.{Visit}
use Rattle.cycle_detect.specs.Parts.{AreVisits, is_seen, enters}
use Rattle.cycle_detect.proofs.Visiting.{after}
use Rattle.cycle_detect.proofs.search.visit_sources.Given as goal

abbrev pub invariant-loop-next : goal.invariant-loop-next
invariant-loop-next g l = record {
  fits : AreVisits l.edges.list l.places l.low l.from l.visits.items l.seen;
  kept_on : (i : ℕ) (v : Visit) → slice_get l.fn.visits.items i ≡ Some v → slice_get l.visits.items i ≡ Some v;
  grown : (n : ℕ) → is_seen l.fn.seen n ≡ true → is_seen l.seen n ≡ true;
  link : (k : ℕ) → l.next ≡ Some k → (x : ℕ) × (slice_get l.edges.list k ≡ Some (x, l.node));
  left : (j x : ℕ) → slice_get l.edges.list j ≡ Some (x, l.node) → l.low ≤ slice_index l.places x → (is_seen l.seen x ≡ true) ⊎ ((k : ℕ) × (l.next ≡ Some k) × (j ≤ k));
  room : vec_capacity l.visits ≡ vec_capacity l.fn.visits;
  ticks : l.steps + count_by (enters l.node) (take (after l.next) l.edges.list) ≡ l.fn.steps + count_by (enters l.node) l.edges.list;
}

abbrev pub decreases-loop-next : goal.decreases-loop-next
decreases-loop-next g l = after l.next
