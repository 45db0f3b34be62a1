use Rattle.c_program.proofs.Answered.{not_neither}
use Rattle.c_program.proofs.laws.not_neither.Goals as goal

pub returns : goal.returns
returns c = not_neither
