use Rattle.answer_laws.proofs.Written.{failing_is_spelled}
use Rattle.answer_laws.proofs.laws.failing_is_spelled.Goals as goal

pub returns : goal.returns
returns c = failing_is_spelled c.allowed_is_spelled.ensures
