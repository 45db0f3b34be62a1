use Rattle.std.proofs.Common.{◌≡◌}
use Rattle.std.specs.Prelude.{All}
use Rattle.cnf_problem.specs.Literals.{IsOver}
use Rattle.cnf_problem.specs.Bounds.{IsAtomOver}
use Rattle.worker_tests.proofs.problems.ten_cycles.Given as goal

abbrev pub invariant-loop-i : goal.invariant-loop-i
invariant-loop-i l = record {
  vars : l.gates.vars ≡ 31;
  atoms : All (IsAtomOver 31 20) l.atoms;
  thirds : All (IsOver 31) l.thirds;
}
