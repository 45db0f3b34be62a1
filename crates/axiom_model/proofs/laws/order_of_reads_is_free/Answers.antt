use Rattle.axiom_model.proofs.Reordered.{well_made-reordered, consistent-reordered, allowed-reordered, failing-reordered}
use Rattle.axiom_model.proofs.laws.order_of_reads_is_free.Goals as goal

pub returns-clause-well_made : goal.returns-clause-well_made
returns-clause-well_made c = well_made-reordered

pub returns-clause-consistent : goal.returns-clause-consistent
returns-clause-consistent c = consistent-reordered

pub returns-clause-allowed : goal.returns-clause-allowed
returns-clause-allowed c = allowed-reordered

pub returns-clause-failing : goal.returns-clause-failing
returns-clause-failing c = failing-reordered
