use Rattle.std.proofs.Common.{sym, ◌∙◌}
use Rattle.exec_check.proofs.Stages as stages
use Rattle.exec_check.proofs.threads.check_children.Goals as goal

pub returns-in-Some-clause-broken : goal.returns-in-Some-clause-broken
returns-in-Some-clause-broken c =
    λ p r l. (r, stages.children_break p c.args.parts.now c.args.event_actions.now c.in-Some.handle l (sym c.missing_child.ensures ∙ c.in-Some.is))

pub returns-in-None-clause-children : goal.returns-in-None-clause-children
returns-in-None-clause-children c =
    λ p r l. stages.children_hold p c.args.parts.now c.args.event_actions.now r l (sym c.missing_child.ensures ∙ c.in-None.is)
