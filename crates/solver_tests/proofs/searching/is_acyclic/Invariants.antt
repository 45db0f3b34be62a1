use Rattle.std.proofs.Common.{take}
use Rattle.std.specs.Prelude.{All}
use Rattle.axiom_model.specs.Sorting.{EndsBelow}
use Rattle.solver_tests.proofs.searching.is_acyclic.Given as goal

abbrev pub invariant-loop-edge : goal.invariant-loop-edge
invariant-loop-edge l = All (EndsBelow l.nodes) (take l.edge-index l.edges)
