use Rattle.flat_prog.proofs.Steps.{steps_append}
use Rattle.flat_prog.proofs.laws.steps_go_on.Goals as goal

pub returns : goal.returns
returns c = steps_append
