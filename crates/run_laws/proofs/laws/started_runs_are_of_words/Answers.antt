use Rattle.run_laws.proofs.WordRuns.{started_run_words, started_short_run_words}
use Rattle.run_laws.proofs.laws.started_runs_are_of_words.Goals as goal

pub returns-clause-whole : goal.returns-clause-whole
returns-clause-whole c = λ p d f handle arg script r checked constants started low argument words e. started_run_words p checked constants d f handle arg script started low argument words r e

pub returns-clause-short : goal.returns-clause-short
returns-clause-short c = λ p d f handle arg script s checked constants started low argument words e. started_short_run_words p checked constants d f handle arg script started low argument words s e
