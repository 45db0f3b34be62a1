use Rattle.run_laws.proofs.WordRuns.{candidate_words}
use Rattle.run_laws.proofs.laws.candidates_are_of_words.Goals as goal

pub returns : goal.returns
returns c = candidate_words
