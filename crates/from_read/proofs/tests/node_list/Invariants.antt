use Rattle.std.proofs.Common.{◌≡◌, length}
use Rattle.std.specs.Prelude.{All}
use Rattle.cnf_problem.specs.Bounds.{IsNodeOf}
use Rattle.from_read.proofs.tests.node_list.Given as goal

abbrev pub invariant-loop-node : goal.invariant-loop-node
invariant-loop-node l = record {
  long : length l.list ≡ l.node-index;
  over : All (IsNodeOf (length l.nodes)) l.list;
}
