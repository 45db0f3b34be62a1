use Rattle.c_program.proofs.OneAnswer.{not_both}
use Rattle.c_program.proofs.laws.accepted_or_refused.Goals as goal

pub returns : goal.returns
returns c = not_both c.one_program.ensures
