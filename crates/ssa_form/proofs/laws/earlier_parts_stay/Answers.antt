use Rattle.ssa_form.proofs.Taking.{earlier_stay}
use Rattle.ssa_form.proofs.laws.earlier_parts_stay.Goals as goal

pub returns : goal.returns
returns c = earlier_stay
