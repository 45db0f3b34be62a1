use Rattle.witness_text.proofs.Answering as answering
use Rattle.witness_text.proofs.laws.no_proper_prefix.Goals as goal

pub returns : goal.returns
returns c = answering.no_proper_prefix
