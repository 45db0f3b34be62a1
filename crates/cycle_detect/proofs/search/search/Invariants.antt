use Rattle.std.proofs.Common.{◌≡◌, ◌≢◌, ℕ, ◌+◌, ◌-◌, ◌<◌, ◌≤◌, Some, take, length, vec_capacity}
use Rattle.std.specs.Prelude.{slice_get}
use Rattle.cycle_detect.specs.declared.search.Visit.{Visit}
use Rattle.cycle_detect.specs.Parts.{AreVisits, IsClosedAt, looked}
use Rattle.cycle_detect.proofs.search.search.Given as goal

abbrev pub invariant-loop-at : goal.invariant-loop-at
invariant-loop-at g l = record {
  fits : AreVisits l.edges.list l.places l.low l.from l.visits.items l.seen;
  within : l.at ≤ length l.visits.items;
  done : (i : ℕ) (v : Visit) → i < l.at → slice_get l.visits.items i ≡ Some v → IsClosedAt l.edges.list l.places l.low l.seen v.node × (v.node ≢ l.to);
  room : vec_capacity l.visits ≡ vec_capacity l.fn.visits;
  ticks : l.steps ≡ l.fn.steps + l.at + looked l.edges.list (take l.at l.visits.items);
}

abbrev pub decreases-loop-at : goal.decreases-loop-at
decreases-loop-at g l = length l.seen - l.at
