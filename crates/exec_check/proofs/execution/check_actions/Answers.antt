use Rattle.std.proofs.Common.{sym, subst}
use Rattle.std.proofs.lemmas.Result.{err_from_is_err_and}
use Rattle.exec_check.specs.Running.{execution_in}
use Rattle.exec_check.specs.EventActions.{ListsActions}
use Rattle.exec_check.specs.Done.{Acts}
use Rattle.exec_check.proofs.Stages as stages
use Rattle.exec_check.proofs.execution.check_actions.Goals as goal

pub check_sources-requires-clause-listed : goal.check_sources-requires-clause-listed
check_sources-requires-clause-listed c =
    let p = c.args.checked.now in
    let k = c.args.candidate.now in
    let d = c.args.done.now in
    subst (ListsActions (execution_in p k)) (sym c.as_slice-event_actions.ensures) (stages.listed_in p k d.event_actions c.requires.did.listed)

pub check_orders-requires-clause-listed : goal.check_orders-requires-clause-listed
check_orders-requires-clause-listed c =
    let p = c.args.checked.now in
    let k = c.args.candidate.now in
    let d = c.args.done.now in
    subst (ListsActions (execution_in p k)) (sym c.as_slice-event_actions.ensures) (stages.listed_in p k d.event_actions c.requires.did.listed)

pub returns-in_err-check_sources-clause-broken : goal.returns-in_err-check_sources-clause-broken
returns-in_err-check_sources-clause-broken c =
    let e = err_from_is_err_and c.from_residual.result c.from_residual.ensures.1 in
    λ m. rw (e.1, e.2) (c.in_err-check_sources.ensures.broken m)

pub returns-in_err-check_orders-clause-broken : goal.returns-in_err-check_orders-clause-broken
returns-in_err-check_orders-clause-broken c =
    let e = err_from_is_err_and c.from_residual-in_err-check_orders.result c.from_residual-in_err-check_orders.ensures.1 in
    λ m. rw (e.1, e.2) (c.in_err-check_orders.ensures.broken m)

pub returns-clause-whole : goal.returns-clause-whole
returns-clause-whole c =
    let p = c.args.checked.now in
    let k = c.args.candidate.now in
    let d = c.args.done.now in
    let acts = subst (λ ts. Acts p k ts c.as_slice-event_actions.result.now) (sym c.as_slice.ensures) (subst (Acts p k d.threads) (sym c.as_slice-event_actions.ensures) (stages.acts_in p k d.threads d.event_actions c.requires.did.seen c.requires.did.listed)) in
    c.check_joins.ensures.whole p k c.in_ok-check_orders.ensures.ordered acts

pub returns-clause-broken : goal.returns-clause-broken
returns-clause-broken c =
    let p = c.args.checked.now in
    let k = c.args.candidate.now in
    let d = c.args.done.now in
    let acts = subst (λ ts. Acts p k ts c.as_slice-event_actions.result.now) (sym c.as_slice.ensures) (subst (Acts p k d.threads) (sym c.as_slice-event_actions.ensures) (stages.acts_in p k d.threads d.event_actions c.requires.did.seen c.requires.did.listed)) in
    λ m. c.check_joins.ensures.broken p m k c.in_ok-check_orders.ensures.ordered acts
