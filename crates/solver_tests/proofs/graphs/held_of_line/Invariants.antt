use Rattle.std.proofs.Common.{◌≡◌, ◌≤◌, length}
use Rattle.solver_tests.proofs.graphs.held_of_line.Given as goal

abbrev pub invariant-loop-i : goal.invariant-loop-i
invariant-loop-i l = record {
  nodes : l.order.nodes ≡ 1000;
  limit : l.order.max_edges ≡ 1000;
  few : length l.order.edges ≤ l.i;
  held : l.held ≤ l.i;
}
