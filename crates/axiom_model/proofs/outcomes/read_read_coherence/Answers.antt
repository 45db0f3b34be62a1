use Rattle.axiom_model.proofs.Rows.{read_read_coherence_all}
use Rattle.axiom_model.proofs.outcomes.read_read_coherence.Goals as goal

pub returns : goal.returns
returns c = read_read_coherence_all
