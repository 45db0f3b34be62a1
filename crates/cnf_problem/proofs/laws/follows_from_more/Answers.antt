use Rattle.cnf_problem.proofs.LemmaLaws.{follows_more}
use Rattle.cnf_problem.proofs.laws.follows_from_more.Goals as goal

pub returns : goal.returns
returns c = follows_more
