use Rattle.std.proofs.Common.{◌≡◌}
use Rattle.worker_tests.proofs.problems.thirty_variables.Given as goal

abbrev pub invariant-loop-made : goal.invariant-loop-made
invariant-loop-made l = l.gates.vars ≡ l._made
