use Rattle.run_laws.proofs.Belonging.{run_belongs, short_run_belongs, cells_few}
use Rattle.run_laws.proofs.laws.actions_belong_to_programs.Goals as goal

pub returns-clause-whole : goal.returns-clause-whole
returns-clause-whole c = run_belongs

pub returns-clause-short : goal.returns-clause-short
returns-clause-short c = short_run_belongs

pub returns-clause-few_cells : goal.returns-clause-few_cells
returns-clause-few_cells c = cells_few
