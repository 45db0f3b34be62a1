use Rattle.axiom_model.specs.Failing.{Run}
use Rattle.run_laws.specs.Lengths.{IsShort}
use Rattle.run_laws.proofs.Started.{started_run_small, started_short_small}
use Rattle.run_laws.proofs.Reached.{run_short}
use Rattle.run_laws.proofs.WordRuns.{all_from}
use Rattle.run_laws.proofs.laws.runs_are_short.Goals as goal

pub returns-clause-whole : goal.returns-clause-whole
returns-clause-whole c = λ p d f handle arg script r checked started e. (started_run_small p checked d f handle arg script r started e).1

pub returns-clause-short : goal.returns-clause-short
returns-clause-short c = λ p d f handle arg script s checked started e. (started_short_small p checked d f handle arg script s started e).1

pub returns-clause-of_candidates : goal.returns-clause-of_candidates
returns-clause-of_candidates c = λ p k rs checked runs made. all_from (λ (r : Run). IsShort r.actions) rs (run_short p k rs checked runs made)
