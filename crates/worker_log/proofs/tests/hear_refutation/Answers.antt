use Rattle.std.proofs.Common.{[], ◌∷◌, subst}
use Rattle.std.specs.Prelude.{Contains}
use Rattle.cnf_problem.specs.declared.problem.Problem.{Problem}
use Rattle.cnf_problem.specs.Formulas.{true_lit}
use Rattle.worker_log.proofs.Testing.{cut_two, left_unused, right_unused, left_problem}
use Rattle.worker_log.proofs.tests.hear_refutation.Goals as goal

pub split-one-requires-clause-within : goal.split-one-requires-clause-within
split-one-requires-clause-within c = cut_two _ _ _ c.in_ok-exchange.ensures.view

pub note_twice-requires-clause-unused : goal.note_twice-requires-clause-unused
note_twice-requires-clause-unused c = left_unused _ _ _ _ _ c.in_ok-exchange.ensures.view c.split-one.ensures.left c.in_ok-left.ensures

pub note_twice-requires-clause-yes : goal.note_twice-requires-clause-yes
note_twice-requires-clause-yes c = subst (λ (q : Problem). Contains q.clauses (true_lit ∷ [])) (left_problem _ _ _ _ c.in_ok-exchange.ensures.view c.split-one.ensures.left) c.in_ok-problem.ensures.yes

pub note_twice-requires-clause-no : goal.note_twice-requires-clause-no
note_twice-requires-clause-no c = subst (λ (q : Problem). Contains q.clauses (record { 0 = 3 } ∷ [])) (left_problem _ _ _ _ c.in_ok-exchange.ensures.view c.split-one.ensures.left) c.in_ok-problem.ensures.no

pub count_heard-requires-clause-unused : goal.count_heard-requires-clause-unused
count_heard-requires-clause-unused c = right_unused _ _ _ _ _ c.in_ok-exchange.ensures.view c.split-one.ensures.right c.in_ok-right.ensures
