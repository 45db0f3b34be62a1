use Rattle.exec_check.proofs.Excluding.{breaks_nothing}
use Rattle.exec_check.proofs.laws.failing_executions_break_nothing.Goals as goal

pub returns : goal.returns
returns c = breaks_nothing
