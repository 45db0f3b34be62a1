use Rattle.run_laws.proofs.WordRuns.{run_words, short_run_words}
use Rattle.run_laws.proofs.laws.runs_are_of_words.Goals as goal

pub returns-clause-whole : goal.returns-clause-whole
returns-clause-whole c = λ p f handle arg script r constants argument words e. run_words p f handle arg script constants argument words r e

pub returns-clause-short : goal.returns-clause-short
returns-clause-short c = λ p f handle arg script s constants argument words e. short_run_words p f handle arg script constants argument words s e
