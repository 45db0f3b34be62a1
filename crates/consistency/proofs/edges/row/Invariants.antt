use Rattle.std.proofs.Common.{◌≡◌, ◌+◌, ◌++◌, drop}
use Rattle.consistency.specs.Edges.{row}
use Rattle.consistency.proofs.edges.row.Given as goal

abbrev pub invariant-loop-other : goal.invariant-loop-other
invariant-loop-other l = record {
  counted : l.target ≡ l.first + l.other-index;
  left : row l.relation l.number l.node l.first l.nodes ≡ l.edges ++ row l.relation l.number l.node l.target (drop l.other-index l.nodes);
}
