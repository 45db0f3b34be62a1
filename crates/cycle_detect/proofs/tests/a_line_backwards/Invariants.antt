use Rattle.std.proofs.Common.{◌≡◌, ◌≤◌, length}
use Rattle.cycle_detect.proofs.tests.a_line_backwards.Given as goal

abbrev pub invariant-loop-i : goal.invariant-loop-i
invariant-loop-i g l = record {
  nodes : l.order.nodes ≡ 1000;
  limit : l.order.max_edges ≡ 1002;
  few : length l.order.edges ≤ l.i;
}
