use Rattle.std.proofs.Common.{◌≡◌, length, map, take}
use Rattle.event_graph.specs.Graphs.{bits_by, initial_events}
use Rattle.event_graph.proofs.walk.initial_writes.Given as goal

abbrev pub invariant-loop-cell : goal.invariant-loop-cell
invariant-loop-cell l = record {
  long : l.count ≡ length l.initials;
  events : l.graph.events ≡ initial_events 0 (take l.cell l.initials);
  bits : l.graph.bits ≡ map (bits_by l.words) (take l.cell l.initials);
}
