use Rattle.cnf_problem.proofs.FlatLaws.{length-pieces}
use Rattle.cnf_problem.proofs.clauses.Clauses.shrink_to_fit.Goals as goal

pub returns-clause-few : goal.returns-clause-few
returns-clause-few c = rw (length-pieces, c.shrink_to_fit-2.ensures.items) c.self.invariant.1
