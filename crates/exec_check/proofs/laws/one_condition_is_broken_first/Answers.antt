use Rattle.exec_check.proofs.OneBroken.{one_broken_first}
use Rattle.exec_check.proofs.laws.one_condition_is_broken_first.Goals as goal

pub returns : goal.returns
returns c = one_broken_first
