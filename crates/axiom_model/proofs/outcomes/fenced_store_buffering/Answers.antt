use Rattle.axiom_model.proofs.Rows.{fenced_store_buffering_all}
use Rattle.axiom_model.proofs.outcomes.fenced_store_buffering.Goals as goal

pub returns : goal.returns
returns c = fenced_store_buffering_all
