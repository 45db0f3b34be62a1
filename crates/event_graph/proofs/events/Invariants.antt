use Rattle.std.proofs.Common.{◌≡◌, ◌++◌, length, map, drop}
use Rattle.event_graph.specs.Graphs.{acting_in_all, event_of, events_of, bits_in, bits_of}
use Rattle.event_graph.proofs.events.Given as goal

abbrev pub invariant-loop-instance : goal.invariant-loop-instance
invariant-loop-instance l = record {
  long : l.count ≡ length l.ssa.parts;
  events : l.graph.events ++ map (event_of l.bits.words) (acting_in_all l.instance (length l.graph.events) (drop l.instance l.ssa.parts)) ≡ events_of l.ssa l.bits.words;
  bits : l.graph.bits ++ map (bits_in l.ssa.parts l.bits.words) (acting_in_all l.instance (length l.graph.events) (drop l.instance l.ssa.parts)) ≡ bits_of l.ssa l.bits.words;
}
