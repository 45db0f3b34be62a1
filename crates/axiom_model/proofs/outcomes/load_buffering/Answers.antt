use Rattle.axiom_model.proofs.Rows.{load_buffering_all}
use Rattle.axiom_model.proofs.outcomes.load_buffering.Goals as goal

pub returns : goal.returns
returns c = load_buffering_all
