use Rattle.run_model.proofs.Handles.{run_is_numbered, short_run_is_numbered}
use Rattle.run_model.proofs.laws.creates_are_numbered.Goals as goal

pub returns-clause-whole : goal.returns-clause-whole
returns-clause-whole c = run_is_numbered

pub returns-clause-short : goal.returns-clause-short
returns-clause-short c = short_run_is_numbered
