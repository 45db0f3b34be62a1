use Rattle.std.proofs.Common.{◌≡◌, length}
use Rattle.std.specs.Prelude.{All}
use Rattle.cnf_problem.specs.Bounds.{IsNodeOf}
use Rattle.worker_tests.proofs.problems.twenty_nodes.Given as goal

abbrev pub invariant-loop-n : goal.invariant-loop-n
invariant-loop-n l = record {
  long : length l.nodes ≡ l.n;
  each : All (IsNodeOf 20) l.nodes;
}
