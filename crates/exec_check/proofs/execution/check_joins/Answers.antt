use Rattle.std.proofs.Common.{sym, ◌∙◌}
use Rattle.exec_check.proofs.Stages as stages
use Rattle.exec_check.proofs.execution.check_joins.Goals as goal

pub returns-in-Some-clause-broken : goal.returns-in-Some-clause-broken
returns-in-Some-clause-broken c =
    λ p m k r a. (r, stages.joins_break p k c.args.threads.now c.args.event_actions.now c.in-Some.event a (sym c.bad_join.ensures ∙ c.in-Some.is))

pub returns-in-None-clause-whole : goal.returns-in-None-clause-whole
returns-in-None-clause-whole c =
    λ p k r a. stages.joins_hold p k c.args.threads.now c.args.event_actions.now r a (sym c.bad_join.ensures ∙ c.in-None.is)
