use Rattle.std.proofs.Common.{◌≡◌, ◌≤◌, ◌-◌}
use Rattle.search_tests.proofs.propagation.scanning.random_problem.Given as goal

abbrev pub invariant-variables : goal.invariant-variables
invariant-variables l = (l.gates.vars ≡ l.made) × (l.made ≤ l.vars)

abbrev pub decreases-variables : goal.decreases-variables
decreases-variables l = l.vars - l.made

abbrev pub invariant-clauses : goal.invariant-clauses
invariant-clauses l = l.gates.vars ≡ l.vars
