use Rattle.cnf_problem.proofs.LemmaLaws.{follows_sound}
use Rattle.cnf_problem.proofs.laws.following_is_true.Goals as goal

pub returns : goal.returns
returns c p clauses lemma assignment h ok sat = follows_sound p clauses assignment lemma ok sat h
