use Rattle.cnf_problem.proofs.ChainLaws.{new_from_fixpoint}
use Rattle.cnf_problem.proofs.laws.fixpoint_makes_new.Goals as goal

pub returns : goal.returns
returns c = new_from_fixpoint
