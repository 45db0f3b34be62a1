use Rattle.cnf_problem.specs.Literals.{IsOver}
use Rattle.worker_tests.proofs.problems.all_signs.Given as goal

abbrev pub invariant-loop-signs : goal.invariant-loop-signs
invariant-loop-signs l = record {
  a : IsOver l.gates.vars l.a;
  b : IsOver l.gates.vars l.b;
  c : IsOver l.gates.vars l.c;
}
