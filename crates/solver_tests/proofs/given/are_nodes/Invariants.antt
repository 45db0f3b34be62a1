use Rattle.std.proofs.Common.{take}
use Rattle.std.specs.Prelude.{All}
use Rattle.cnf_problem.specs.Bounds.{IsNodeOf}
use Rattle.solver_tests.proofs.given.are_nodes.Given as goal

abbrev pub invariant-loop-node : goal.invariant-loop-node
invariant-loop-node l = All (IsNodeOf l.nodes) (take l.node-index l.list)
