use Rattle.witness_text.proofs.Answering as answering
use Rattle.witness_text.proofs.laws.one_candidate.Goals as goal

pub returns : goal.returns
returns c = answering.one_candidate
