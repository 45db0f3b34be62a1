use Rattle.std.proofs.Common.{◌≡◌, Some, None, sym, ◌∙◌, subst, ⊎_elim}
use Rattle.std.specs.Prelude.{length}
use Rattle.exec_check.specs.Broken.{IsFirstBroken}
use Rattle.exec_check.proofs.Stages as stages
use Rattle.exec_check.proofs.execution.check_orders.Goals as goal

pub returns-in-Some-clause-broken : goal.returns-in-Some-clause-broken
returns-in-Some-clause-broken c =
    let p = c.args.checked.now in
    let k = c.args.candidate.now in
    let ws = c.args.event_actions.now in
    let many : c.len.result ≡ length p.cells = cc in
    let first = stages.orders_told (Some c.in-Some.cell) c.len.result ws k.co c.as_slice.result.now c.as_slice.ensures (sym c.first_bad_order.ensures ∙ c.in-Some.is) in
    λ m. ⊎_elim (λ e. subst (IsFirstBroken p m k) (sym e) tt) (λ e. subst (IsFirstBroken p m k) (sym e) (c.requires.sources, stages.orders_break p k ws c.len.result c.in-Some.cell c.requires.checked many c.requires.listed first)) c.bad_order.ensures

pub returns-in-None-clause-ordered : goal.returns-in-None-clause-ordered
returns-in-None-clause-ordered c =
    let p = c.args.checked.now in
    let k = c.args.candidate.now in
    let ws = c.args.event_actions.now in
    let many : c.len.result ≡ length p.cells = cc in
    let none = stages.orders_told None c.len.result ws k.co c.as_slice.result.now c.as_slice.ensures (sym c.first_bad_order.ensures ∙ c.in-None.is) in
    stages.orders_hold p k ws c.len.result c.requires.checked many c.requires.listed c.requires.sources none
