use Rattle.std.proofs.Common.{sym, ◌∙◌}
use Rattle.exec_check.proofs.Stages as stages
use Rattle.exec_check.proofs.threads.check_creates.Goals as goal

pub returns-in-Some-clause-broken : goal.returns-in-Some-clause-broken
returns-in-Some-clause-broken c =
    λ p r l. (r, stages.creates_break p c.args.parts.now c.args.event_actions.now c.in-Some.handle l (sym c.not_created.ensures ∙ c.in-Some.is))

pub returns-in-None-clause-created : goal.returns-in-None-clause-created
returns-in-None-clause-created c =
    λ p r l. stages.creates_hold p c.args.parts.now c.args.event_actions.now r l (sym c.not_created.ensures ∙ c.in-None.is)
