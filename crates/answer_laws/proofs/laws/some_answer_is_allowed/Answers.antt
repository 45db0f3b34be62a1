use Rattle.answer_laws.proofs.Answered.{some_answer_is_allowed}
use Rattle.answer_laws.proofs.laws.some_answer_is_allowed.Goals as goal

pub returns : goal.returns
returns c = some_answer_is_allowed c.not_neither.ensures c.some_replay_is_allowed.ensures c.some_verdict_is_allowed.ensures
