use Rattle.run_laws.proofs.Resuming.{short_run_goes_on}
use Rattle.run_laws.proofs.laws.short_runs_go_on.Goals as goal

pub returns : goal.returns
returns c = short_run_goes_on
