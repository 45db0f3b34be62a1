use Rattle.std.proofs.Common.{◌≡◌, ◌<◌, ◌-◌, length}
use Rattle.trail_state.specs.Heaps.{IsPlaced, IsReordered}
use Rattle.trail_state.proofs.heap.sift_down.Given as goal

abbrev pub invariant-loop-i : goal.invariant-loop-i
invariant-loop-i l = record {
  placed : IsPlaced l.items l.places;
  moved : IsReordered l.fn.items l.items;
  long : length l.places ≡ length l.fn.places;
  within : l.i < length l.items;
}

abbrev pub decreases-loop-i : goal.decreases-loop-i
decreases-loop-i l = length l.items - l.i
