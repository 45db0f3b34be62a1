use Rattle.std.proofs.Common.{◌≡◌, [], ◌∷◌}
use Rattle.cnf_problem.specs.Formulas.{true_lit}
use Rattle.search_tests.proofs.exchange.rows.eight_variables.Given as goal

abbrev pub invariant-loop-made : goal.invariant-loop-made
invariant-loop-made l = (l.gates.vars ≡ l._made) × (l.gates.clauses ≡ (true_lit ∷ []) ∷ [])
