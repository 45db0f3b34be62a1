use Rattle.c_program.proofs.OneAnswer.{one_checked}
use Rattle.c_program.proofs.laws.one_checked.Goals as goal

pub returns : goal.returns
returns c = one_checked c.one_program.ensures
