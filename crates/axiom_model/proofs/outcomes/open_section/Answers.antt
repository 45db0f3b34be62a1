use Rattle.axiom_model.proofs.Rows.{open_section_all}
use Rattle.axiom_model.proofs.outcomes.open_section.Goals as goal

pub returns : goal.returns
returns c = open_section_all
