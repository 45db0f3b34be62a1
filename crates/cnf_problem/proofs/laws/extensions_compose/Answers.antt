use Rattle.cnf_problem.proofs.GateLaws.{extends_steps, extends_free, extends_assignments, extends_values}
use Rattle.cnf_problem.proofs.laws.extensions_compose.Goals as goal

pub returns-clause-steps : goal.returns-clause-steps
returns-clause-steps c = extends_steps

pub returns-clause-free : goal.returns-clause-free
returns-clause-free c = extends_free

pub returns-clause-assignments : goal.returns-clause-assignments
returns-clause-assignments c = extends_assignments

pub returns-clause-values : goal.returns-clause-values
returns-clause-values c = extends_values
