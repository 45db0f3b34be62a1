use Rattle.axiom_model.specs.Outcomes as outcomes
use Rattle.axiom_model.proofs.Rows.{two_plus_two_writes_tso, two_plus_two_writes_pso}
use Rattle.axiom_model.proofs.Weaker.{sc-tso}
use Rattle.axiom_model.proofs.outcomes.two_plus_two_writes.Goals as goal

pub returns-clause-sc : goal.returns-clause-sc
returns-clause-sc c k = two_plus_two_writes_tso (sc-tso outcomes.two_plus_two_writes k)

pub returns-clause-tso : goal.returns-clause-tso
returns-clause-tso c = two_plus_two_writes_tso

pub returns-clause-pso : goal.returns-clause-pso
returns-clause-pso c = two_plus_two_writes_pso
