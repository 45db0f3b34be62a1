use Rattle.axiom_model.proofs.Rows.{write_read_coherence_all}
use Rattle.axiom_model.proofs.outcomes.write_read_coherence.Goals as goal

pub returns : goal.returns
returns c = write_read_coherence_all
