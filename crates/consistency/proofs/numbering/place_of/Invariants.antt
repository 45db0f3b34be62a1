use Rattle.std.proofs.Common.{◌≡◌, drop}
use Rattle.consistency.specs.Numbering.{place_from}
use Rattle.consistency.proofs.numbering.place_of.Given as goal

abbrev pub invariant-loop-node : goal.invariant-loop-node
invariant-loop-node l = record {
  counted : l.number ≡ l.node-index;
  left : place_from 0 l.nodes l.event ≡ place_from l.number (drop l.node-index l.nodes) l.event;
}
