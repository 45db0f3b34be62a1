use Rattle.std.proofs.Common.{take}
use Rattle.std.specs.Prelude.{All}
use Rattle.cnf_problem.specs.Bounds.{IsAtomOver}
use Rattle.solver_tests.proofs.given.are_atoms.Given as goal

abbrev pub invariant-loop-atom : goal.invariant-loop-atom
invariant-loop-atom l = All (IsAtomOver l.vars l.nodes) (take l.atom-index l.list)
