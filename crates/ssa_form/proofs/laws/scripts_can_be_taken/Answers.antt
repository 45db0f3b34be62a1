use Rattle.ssa_form.proofs.Taking.{scripts_are_taken}
use Rattle.ssa_form.proofs.laws.scripts_can_be_taken.Goals as goal

pub returns : goal.returns
returns c = scripts_are_taken
