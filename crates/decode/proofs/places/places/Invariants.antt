use Rattle.std.proofs.Common.{◌≡◌, ℕ, ◌<◌, length, get_or}
use Rattle.event_graph.specs.Laws.{earlier}
use Rattle.decode.proofs.Placing.{ArePlaced}
use Rattle.decode.proofs.places.places.Given as goal

abbrev pub invariant-loop-place : goal.invariant-loop-place
invariant-loop-place l = record {
  long : l.count ≡ length l.events;
  same : length l.indices ≡ length l.handles;
  counts : (i : ℕ) → i < length l.handles → get_or l.indices i 0 ≡ earlier l.truths i l.place l.events;
  placed : ArePlaced l.truths l.events l.handles l.place l.places;
}
