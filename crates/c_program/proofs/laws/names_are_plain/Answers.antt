use Rattle.c_program.proofs.PlainNames.{names_are_plain}
use Rattle.c_program.proofs.laws.names_are_plain.Goals as goal

pub returns : goal.returns
returns c = names_are_plain
