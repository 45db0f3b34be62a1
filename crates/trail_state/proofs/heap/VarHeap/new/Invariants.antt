use Rattle.std.proofs.Common.{◌≡◌, ◌+◌, vec_capacity}
use Rattle.trail_state.proofs.Places.{IsFilled}
use Rattle.trail_state.proofs.heap.VarHeap.new.Given as goal

abbrev pub invariant-loop-i : goal.invariant-loop-i
invariant-loop-i l = record {
  filled : IsFilled l.i l.items.items l.places.items;
  items_room : vec_capacity l.items ≡ l.vars;
  places_room : vec_capacity l.places ≡ l.vars + 1;
}
