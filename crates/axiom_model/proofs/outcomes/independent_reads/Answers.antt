use Rattle.axiom_model.proofs.Rows.{independent_reads_all}
use Rattle.axiom_model.proofs.outcomes.independent_reads.Goals as goal

pub returns : goal.returns
returns c = independent_reads_all
