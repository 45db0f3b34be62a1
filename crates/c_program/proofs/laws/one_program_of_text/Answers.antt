use Rattle.c_program.proofs.OneAnswer.{one_program_of_text}
use Rattle.c_program.proofs.laws.one_program_of_text.Goals as goal

pub returns : goal.returns
returns c = one_program_of_text c.one_program.ensures
