use Rattle.cnf_problem.proofs.ChainLaws.{new_differs}
use Rattle.cnf_problem.proofs.laws.new_is_not_listed.Goals as goal

pub returns : goal.returns
returns c clauses lemma new listed = new_differs clauses lemma listed new
