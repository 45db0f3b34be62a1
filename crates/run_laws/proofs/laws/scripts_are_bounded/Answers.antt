use Rattle.run_laws.proofs.Used.{runs_bounded}
use Rattle.run_laws.proofs.laws.scripts_are_bounded.Goals as goal

pub returns : goal.returns
returns c = runs_bounded
