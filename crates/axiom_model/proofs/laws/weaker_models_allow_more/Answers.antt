use Rattle.axiom_model.proofs.Weaker.{sc-tso, tso-pso}
use Rattle.axiom_model.proofs.laws.weaker_models_allow_more.Goals as goal

pub returns-clause-tso : goal.returns-clause-tso
returns-clause-tso c = sc-tso

pub returns-clause-pso : goal.returns-clause-pso
returns-clause-pso c = tso-pso
