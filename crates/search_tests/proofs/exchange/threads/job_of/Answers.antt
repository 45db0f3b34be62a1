use Rattle.std.proofs.Common.{[], ◌∷◌}
use Rattle.cnf_problem.specs.Formulas.{true_lit}
use Rattle.search_tests.proofs.Readiness.{follows_clause}
use Rattle.search_tests.proofs.exchange.threads.job_of.Goals as goal

pub returns-clause-follow : goal.returns-clause-follow
returns-clause-follow c = (
  follows_clause _ _ (true_lit ∷ []) c.requires c.in_ok-one_lemma.ensures.1 c.in_ok-one_lemma.ensures.0,
  follows_clause _ _ (true_lit ∷ []) c.requires c.in_ok-one_lemma-2.ensures.1 c.in_ok-one_lemma-2.ensures.0,
)
