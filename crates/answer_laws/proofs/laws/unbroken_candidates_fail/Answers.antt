use Rattle.answer_laws.proofs.Unbroken.{unbroken_fails}
use Rattle.answer_laws.proofs.laws.unbroken_candidates_fail.Goals as goal

pub returns : goal.returns
returns c = unbroken_fails
