use Rattle.axiom_model.proofs.Rows.{store_forwarding_sc, store_forwarding_tso, store_forwarding_pso}
use Rattle.axiom_model.proofs.outcomes.store_forwarding.Goals as goal

pub returns-clause-sc : goal.returns-clause-sc
returns-clause-sc c = store_forwarding_sc

pub returns-clause-tso : goal.returns-clause-tso
returns-clause-tso c = store_forwarding_tso

pub returns-clause-pso : goal.returns-clause-pso
returns-clause-pso c = store_forwarding_pso
