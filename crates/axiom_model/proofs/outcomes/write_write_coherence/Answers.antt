use Rattle.axiom_model.proofs.Rows.{write_write_coherence_all}
use Rattle.axiom_model.proofs.outcomes.write_write_coherence.Goals as goal

pub returns : goal.returns
returns c = write_write_coherence_all
