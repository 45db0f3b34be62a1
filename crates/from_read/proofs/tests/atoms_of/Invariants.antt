use Rattle.std.proofs.Common.{◌≡◌, ℕ, length}
use Rattle.std.specs.Prelude.{All}
use Rattle.cnf_problem.specs.Literals.{IsOver}
use Rattle.cnf_problem.specs.Bounds.{IsAtomOver}
use Rattle.from_read.proofs.tests.atoms_of.Given as goal

abbrev pub invariant-loop-kind : goal.invariant-loop-kind
invariant-loop-kind l = record {
  long : length l.list ≡ l.kind-index;
  over : (vars : ℕ) → IsOver vars l.lit → All (IsAtomOver vars l.nodes) l.list;
}
