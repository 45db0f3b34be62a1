use Rattle.answer_laws.proofs.Spelled.{spelled_or_refused}
use Rattle.answer_laws.proofs.laws.witnesses_are_spelled_or_refused.Goals as goal

pub returns : goal.returns
returns c = spelled_or_refused
