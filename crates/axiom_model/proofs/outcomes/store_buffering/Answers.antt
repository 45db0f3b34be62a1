use Rattle.axiom_model.proofs.Rows.{store_buffering_sc, store_buffering_tso, store_buffering_pso}
use Rattle.axiom_model.proofs.outcomes.store_buffering.Goals as goal

pub returns-clause-sc : goal.returns-clause-sc
returns-clause-sc c = store_buffering_sc

pub returns-clause-tso : goal.returns-clause-tso
returns-clause-tso c = store_buffering_tso

pub returns-clause-pso : goal.returns-clause-pso
returns-clause-pso c = store_buffering_pso
