use Rattle.c_stmt.proofs.Complete as complete
use Rattle.c_stmt.proofs.laws.one_program.Goals as goal

pub returns : goal.returns
returns c = complete.one_program
