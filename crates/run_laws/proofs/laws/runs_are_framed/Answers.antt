use Rattle.run_laws.proofs.Framing.{run_framed, short_run_framed}
use Rattle.run_laws.proofs.laws.runs_are_framed.Goals as goal

pub returns-clause-whole : goal.returns-clause-whole
returns-clause-whole c = run_framed

pub returns-clause-short : goal.returns-clause-short
returns-clause-short c = short_run_framed
