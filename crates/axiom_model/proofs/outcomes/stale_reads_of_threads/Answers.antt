use Rattle.axiom_model.proofs.Rows.{stale_after_create_all, stale_after_join_all}
use Rattle.axiom_model.proofs.outcomes.stale_reads_of_threads.Goals as goal

pub returns-clause-after_create : goal.returns-clause-after_create
returns-clause-after_create c = stale_after_create_all

pub returns-clause-after_join : goal.returns-clause-after_join
returns-clause-after_join c = stale_after_join_all
