use Rattle.cnf_problem.proofs.ChainLaws.{fixpoint_reached, fixpoint_no_conflict}
use Rattle.cnf_problem.proofs.laws.fixpoint_has_chains.Goals as goal

pub returns-clause-reached : goal.returns-clause-reached
returns-clause-reached c = fixpoint_reached

pub returns-clause-no_conflict : goal.returns-clause-no_conflict
returns-clause-no_conflict c = fixpoint_no_conflict
