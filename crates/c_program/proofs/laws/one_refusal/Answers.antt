use Rattle.c_program.proofs.OneRefusal.{one_refusal}
use Rattle.c_program.proofs.laws.one_refusal.Goals as goal

pub returns : goal.returns
returns c = one_refusal c.one_program.ensures
