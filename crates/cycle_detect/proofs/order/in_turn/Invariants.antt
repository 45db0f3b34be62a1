use Rattle.std.proofs.Common.{◌≡◌, ℕ, ◌<◌, length, slice_index, vec_capacity}
use Rattle.cycle_detect.proofs.order.in_turn.Given as goal

abbrev pub invariant-loop-node : goal.invariant-loop-node
invariant-loop-node l = record {
  long : length l.turn.items ≡ l.node;
  in_place : (k : ℕ) → k < l.node → slice_index l.turn.items k ≡ k;
  room : vec_capacity l.turn ≡ l.nodes;
}
