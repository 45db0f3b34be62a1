use Rattle.cnf_problem.proofs.FlatLaws.{length-pieces}
use Rattle.cnf_problem.proofs.clauses.Clauses.len.Goals as goal

pub returns-clause-value : goal.returns-clause-value
returns-clause-value c = rw (← c.self.view_is, length-pieces, c.len.ensures) (c.self.inside.ends.ok.0)
