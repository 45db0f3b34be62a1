use Rattle.std.proofs.Common.{take}
use Rattle.std.specs.Prelude.{All}
use Rattle.cnf_problem.specs.Bounds.{IsBetween}
use Rattle.solver_tests.proofs.given.are_between.Given as goal

abbrev pub invariant-loop-edge : goal.invariant-loop-edge
invariant-loop-edge l = All (IsBetween l.nodes) (take l.edge-index l.edges)
