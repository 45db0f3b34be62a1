use Rattle.run_model.proofs.Scripts.{run_uses_only, short_run_used}
use Rattle.run_model.proofs.laws.runs_depend_on_what_they_used.Goals as goal

pub returns-clause-whole : goal.returns-clause-whole
returns-clause-whole c = run_uses_only

pub returns-clause-short : goal.returns-clause-short
returns-clause-short c = short_run_used
