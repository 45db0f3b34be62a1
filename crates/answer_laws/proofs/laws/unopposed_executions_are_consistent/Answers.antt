use Rattle.answer_laws.proofs.Evident.{no_evidence}
use Rattle.answer_laws.proofs.laws.unopposed_executions_are_consistent.Goals as goal

pub returns : goal.returns
returns c = λ s x m made none. no_evidence s x made m none
