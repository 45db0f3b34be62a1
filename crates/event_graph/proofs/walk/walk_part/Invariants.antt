use Rattle.std.proofs.Common.{◌≡◌, ◌++◌, None, length, map, drop}
use Rattle.event_graph.specs.Graphs.{acting_in, event_of}
use Rattle.event_graph.specs.Walks.{own_bits}
use Rattle.event_graph.proofs.walk.walk_part.Given as goal

abbrev pub invariant-loop-step : goal.invariant-loop-step
invariant-loop-step l = record {
  instance : l.thread.instance ≡ l.instance;
  handle : l.thread.handle ≡ l.part.handle;
  events : l.graph.events ++ map (event_of l.words) (acting_in l.instance (length l.graph.events) l.thread.section (drop l.step-index l.part.steps))
      ≡ l.initial.graph.events ++ map (event_of l.words) (acting_in l.instance (length l.initial.graph.events) None l.part.steps);
  bits : l.graph.bits ++ map (own_bits l.words l.part.handle) (acting_in l.instance (length l.graph.events) l.thread.section (drop l.step-index l.part.steps))
      ≡ l.initial.graph.bits ++ map (own_bits l.words l.part.handle) (acting_in l.instance (length l.initial.graph.events) None l.part.steps);
}
