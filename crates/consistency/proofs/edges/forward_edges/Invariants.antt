use Rattle.std.proofs.Common.{◌≡◌, ◌++◌, drop}
use Rattle.consistency.specs.Edges.{forward_edges}
use Rattle.consistency.proofs.edges.forward_edges.Given as goal

abbrev pub invariant-loop-node : goal.invariant-loop-node
invariant-loop-node l = record {
  counted : l.number ≡ l.node-index;
  left : forward_edges l.relation 0 l.nodes ≡ l.edges ++ forward_edges l.relation l.number (drop l.node-index l.nodes);
}
