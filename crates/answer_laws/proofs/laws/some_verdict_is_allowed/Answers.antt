use Rattle.answer_laws.proofs.Verdicts.{some_verdict_is_allowed}
use Rattle.answer_laws.proofs.laws.some_verdict_is_allowed.Goals as goal

pub returns : goal.returns
returns c = some_verdict_is_allowed c.failing_is_spelled.ensures
