use Rattle.answer_laws.proofs.Replays.{some_replay_is_allowed}
use Rattle.answer_laws.proofs.laws.some_replay_is_allowed.Goals as goal

pub returns : goal.returns
returns c = some_replay_is_allowed
