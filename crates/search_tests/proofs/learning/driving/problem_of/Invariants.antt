use Rattle.std.proofs.Common.{◌≡◌}
use Rattle.search_tests.proofs.learning.driving.problem_of.Given as goal

abbrev pub invariant-loop-row : goal.invariant-loop-row
invariant-loop-row l = l.gates.vars ≡ 4
