use Rattle.std.proofs.Common.{◌≡◌, ◌++◌, drop}
use Rattle.consistency.specs.Edges.{cross_edges}
use Rattle.consistency.proofs.edges.cross_edges.Given as goal

abbrev pub invariant-loop-node : goal.invariant-loop-node
invariant-loop-node l = record {
  counted : l.number ≡ l.node-index;
  left : cross_edges l.nodes 0 l.nodes ≡ l.edges ++ cross_edges l.nodes l.number (drop l.node-index l.nodes);
}
