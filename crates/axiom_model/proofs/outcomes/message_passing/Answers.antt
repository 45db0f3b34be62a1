use Rattle.axiom_model.specs.Outcomes as outcomes
use Rattle.axiom_model.proofs.Rows.{message_passing_tso, message_passing_pso}
use Rattle.axiom_model.proofs.Weaker.{sc-tso}
use Rattle.axiom_model.proofs.outcomes.message_passing.Goals as goal

pub returns-clause-sc : goal.returns-clause-sc
returns-clause-sc c k = message_passing_tso (sc-tso outcomes.message_passing k)

pub returns-clause-tso : goal.returns-clause-tso
returns-clause-tso c = message_passing_tso

pub returns-clause-pso : goal.returns-clause-pso
returns-clause-pso c = message_passing_pso
