use Rattle.std.proofs.Common.{sym, ap, ◌∙◌, subst}
use Rattle.std.proofs.lemmas.Result.{err_from_is_err_and}
use Rattle.exec_check.specs.Running.{acting}
use Rattle.exec_check.specs.EventActions.{event_actions, ListsActions}
use Rattle.exec_check.proofs.Stages as stages
use Rattle.exec_check.proofs.threads.run_threads.Goals as goal

pub returns-in_err-check_creates-clause-broken : goal.returns-in_err-check_creates-clause-broken
returns-in_err-check_creates-clause-broken c =
    let p = c.args.checked.now in
    let ps = c.args.parts.now in
    let ts = c.in_ok-runs.runs.threads in
    let ws = c.in_ok-event_actions.event_actions in
    let runs = c.in_ok-runs.ensures.runs in
    let lists = stages.listed_alone p ps ts ws runs c.in_ok-runs.ensures.seen (c.in_ok-event_actions.ensures.listed ∙ ap event_actions c.as_slice.ensures) in
    let e = err_from_is_err_and c.from_residual-in_err-check_creates.result c.from_residual-in_err-check_creates.ensures.1 in
    rw (e.1, e.2) (c.in_err-check_creates.ensures.broken p runs (subst (ListsActions (acting p ps)) (sym c.as_slice-2.ensures) lists))

pub returns-in_err-check_children-clause-broken : goal.returns-in_err-check_children-clause-broken
returns-in_err-check_children-clause-broken c =
    let p = c.args.checked.now in
    let ps = c.args.parts.now in
    let ts = c.in_ok-runs.runs.threads in
    let ws = c.in_ok-event_actions.event_actions in
    let runs = c.in_ok-runs.ensures.runs in
    let lists = stages.listed_alone p ps ts ws runs c.in_ok-runs.ensures.seen (c.in_ok-event_actions.ensures.listed ∙ ap event_actions c.as_slice.ensures) in
    let creates = c.in_ok-check_creates.ensures.created p runs (subst (ListsActions (acting p ps)) (sym c.as_slice-2.ensures) lists) in
    let e = err_from_is_err_and c.from_residual-in_err-check_children.result c.from_residual-in_err-check_children.ensures.1 in
    rw (e.1, e.2) (c.in_err-check_children.ensures.broken p creates (subst (ListsActions (acting p ps)) (sym c.as_slice-3.ensures) lists))

pub returns-clause-children : goal.returns-clause-children
returns-clause-children c =
    let p = c.args.checked.now in
    let ps = c.args.parts.now in
    let ts = c.in_ok-runs.runs.threads in
    let ws = c.in_ok-event_actions.event_actions in
    let runs = c.in_ok-runs.ensures.runs in
    let lists = stages.listed_alone p ps ts ws runs c.in_ok-runs.ensures.seen (c.in_ok-event_actions.ensures.listed ∙ ap event_actions c.as_slice.ensures) in
    let creates = c.in_ok-check_creates.ensures.created p runs (subst (ListsActions (acting p ps)) (sym c.as_slice-2.ensures) lists) in
    c.in_ok-check_children.ensures.children p creates (subst (ListsActions (acting p ps)) (sym c.as_slice-3.ensures) lists)

pub returns-clause-did : goal.returns-clause-did
returns-clause-did c =
    let p = c.args.checked.now in
    let ps = c.args.parts.now in
    let ts = c.in_ok-runs.runs.threads in
    let ws = c.in_ok-event_actions.event_actions in
    let lists = stages.listed_alone p ps ts ws c.in_ok-runs.ensures.runs c.in_ok-runs.ensures.seen (c.in_ok-event_actions.ensures.listed ∙ ap event_actions c.as_slice.ensures) in
    record { seen = c.in_ok-runs.ensures.seen; listed = lists; failing = c.in_ok-runs.ensures.failing }
