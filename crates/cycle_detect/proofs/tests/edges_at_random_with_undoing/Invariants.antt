use Rattle.std.proofs.Common.{◌≡◌, ◌≤◌, length}
use Rattle.cycle_detect.proofs.tests.edges_at_random_with_undoing.Given as goal

abbrev pub invariant-loop-i : goal.invariant-loop-i
invariant-loop-i g l = record {
  nodes : l.order.nodes ≡ 8;
  limit : l.order.max_edges ≡ 600;
  few : length l.order.edges ≤ l.i;
}
