use Rattle.std.proofs.Common.{◌≡◌, ◌≢◌, ℕ, ◌<◌, ◌≤◌, List, [], length, refl, ap, sym, ◌∙◌, subst, arith}
use Rattle.std.specs.Prelude.{Contains, All}
use Rattle.std.proofs.lemmas.List.Elements.{All-contains}
use Rattle.std.proofs.lemmas.Result.{on_ok_weaker}
use Rattle.dg_base.specs.declared.Lit.{Lit}
use Rattle.cnf_problem.specs.Literals.{IsOver}
use Rattle.trail_state.specs.Trails.{TrailView, up_to}
use Rattle.clause_exchange.specs.Steps.{mine}
use Rattle.worker_log.specs.Logs.{LogView}
use Rattle.worker_log.specs.Keeping.{IsLogging}
use Rattle.cdcl_worker.specs.Outcomes.{WorkerView}
use Rattle.cdcl_worker.specs.Searching.{IsLast}
use Rattle.cdcl_worker.proofs.Fresh.{some_literal}
use Rattle.cdcl_worker.proofs.Noted.{some_entry, log_longer, silent_by, silent_noted}
use Rattle.cdcl_worker.proofs.Learnt.{all_each}
use Rattle.cdcl_worker.proofs.Steps.{OnlyLogs, HasUndone, HasKept, last_lemma, last_over, last_watchable, searching_kept, lemma_listed, watching_undone, on_ok_two, same_problem}
use Rattle.cdcl_worker.proofs.worker.Worker.keep_cycle.Goals as goal

pub note_cycle-requires-clause-searching : goal.note_cycle-requires-clause-searching
note_cycle-requires-clause-searching c = (c.requires.searching.0, c.requires.searching.1)

pub note_cycle-requires-clause-new : goal.note_cycle-requires-clause-new
note_cycle-requires-clause-new c = λ some. c.requires.new

pub keep_last-requires-clause-some : goal.keep_last-requires-clause-some
keep_last-requires-clause-some c =
    let m = c.in_ok-note_cycle.ensures.noted in
    subst (λ (l : LogView). 0 < length l.entries) (sym c.undo.ensures.same.0) (some_entry m.0 (mine c.args.seat.now.view) (mine c.note_cycle.new.seat.view) m.1 c.note_cycle.new.self.log c.note_cycle.new.seat.view refl c.note_cycle.ensures.silent.left.logging)

pub keep_last-requires-clause-watching : goal.keep_last-requires-clause-watching
keep_last-requires-clause-watching c =
    let s = c.requires.searching in
    let p = c.args.seat.now.view.problem in
    let w = c.args.self.now in
    let v = c.args.seat.now.view in
    let u = c.note_cycle.new.self in
    let x = c.note_cycle.new.seat.view in
    let y = c.undo.new.self in
    let m = c.in_ok-note_cycle.ensures.noted in
    let r = c.note_cycle.ensures.rest in
    let logging : IsLogging u.log x = c.note_cycle.ensures.silent.left.logging in
    let only : OnlyLogs w u = record { trail = r.0; store = r.1; order = r.2; choice = r.3; since = r.4 } in
    let un : HasUndone c.args.level u y = record { log = c.undo.ensures.same.0; since = c.undo.ensures.same.1; store = c.undo.ensures.same.2; trail = c.undo.ensures.trail; thinking = c.undo.ensures.thinking } in
    (p, watching_undone p w u y c.args.level s.1.watching c.requires.well only un)

pub keep_last-requires-clause-over : goal.keep_last-requires-clause-over
keep_last-requires-clause-over c =
    let s = c.requires.searching in
    let p = c.args.seat.now.view.problem in
    let w = c.args.self.now in
    let v = c.args.seat.now.view in
    let u = c.note_cycle.new.self in
    let x = c.note_cycle.new.seat.view in
    let y = c.undo.new.self in
    let m = c.in_ok-note_cycle.ensures.noted in
    let r = c.note_cycle.ensures.rest in
    let logging : IsLogging u.log x = c.note_cycle.ensures.silent.left.logging in
    let only : OnlyLogs w u = record { trail = r.0; store = r.1; order = r.2; choice = r.3; since = r.4 } in
    let un : HasUndone c.args.level u y = record { log = c.undo.ensures.same.0; since = c.undo.ensures.same.1; store = c.undo.ensures.same.2; trail = c.undo.ensures.trail; thinking = c.undo.ensures.thinking } in
    let over : (l : Lit) → Contains m.0.lits l → IsOver p.vars l = λ l k. All-contains (IsOver p.vars) c.args.clause.now l c.requires.cycle.over (m.2 l k) in
    λ clause last. all_each (IsOver y.trail.vars) clause (last_over p s.0 w u v x m.0 s.1.going m.1 only logging c.args.level y un over clause last)

pub keep_last-requires-clause-watchable : goal.keep_last-requires-clause-watchable
keep_last-requires-clause-watchable c =
    let s = c.requires.searching in
    let p = c.args.seat.now.view.problem in
    let w = c.args.self.now in
    let v = c.args.seat.now.view in
    let u = c.note_cycle.new.self in
    let x = c.note_cycle.new.seat.view in
    let y = c.undo.new.self in
    let m = c.in_ok-note_cycle.ensures.noted in
    let r = c.note_cycle.ensures.rest in
    let logging : IsLogging u.log x = c.note_cycle.ensures.silent.left.logging in
    let only : OnlyLogs w u = record { trail = r.0; store = r.1; order = r.2; choice = r.3; since = r.4 } in
    let un : HasUndone c.args.level u y = record { log = c.undo.ensures.same.0; since = c.undo.ensures.same.1; store = c.undo.ensures.same.2; trail = c.undo.ensures.trail; thinking = c.undo.ensures.thinking } in
    last_watchable p s.0 w u v x m.0 s.1.going m.1 only logging c.args.level y un (c.requires.watchable m.0.lits m.3)

pub returns-clause-silent : goal.returns-clause-silent
returns-clause-silent c = silent_by (mine c.args.seat.now.view) c.note_cycle.new.self c.keep_last.new.self c.note_cycle.new.seat.view (c.keep_last.ensures.rest.3 ∙ c.undo.ensures.same.0) c.note_cycle.ensures.silent

pub returns-clause-longer : goal.returns-clause-longer
returns-clause-longer c = on_ok_weaker c.keep_last.result (λ h. log_longer c.in_ok-note_cycle.ensures.noted.0 (mine c.args.seat.now.view) (mine c.note_cycle.new.seat.view) c.in_ok-note_cycle.ensures.noted.1) c.keep_last.ensures.added

pub returns-clause-trail : goal.returns-clause-trail
returns-clause-trail c =
    let r = c.note_cycle.ensures.rest in
    let k = c.keep_last.ensures.rest in
    on_ok_weaker c.keep_last.result
    (λ h. (ap (λ (t : TrailView). t.entries) k.0 ∙ c.undo.ensures.trail.entries ∙ ap (λ (t : TrailView). up_to c.args.level t.entries) r.0, k.4 ∙ c.undo.ensures.same.1 ∙ r.4))
    c.keep_last.ensures.added

pub returns-clause-searching : goal.returns-clause-searching
returns-clause-searching c =
    let s = c.requires.searching in
    let p = c.args.seat.now.view.problem in
    let w = c.args.self.now in
    let v = c.args.seat.now.view in
    let u = c.note_cycle.new.self in
    let x = c.note_cycle.new.seat.view in
    let y = c.undo.new.self in
    let m = c.in_ok-note_cycle.ensures.noted in
    let r = c.note_cycle.ensures.rest in
    let logging : IsLogging u.log x = c.note_cycle.ensures.silent.left.logging in
    let only : OnlyLogs w u = record { trail = r.0; store = r.1; order = r.2; choice = r.3; since = r.4 } in
    let un : HasUndone c.args.level u y = record { log = c.undo.ensures.same.0; since = c.undo.ensures.same.1; store = c.undo.ensures.same.2; trail = c.undo.ensures.trail; thinking = c.undo.ensures.thinking } in
    let k = c.keep_last.ensures.rest in
    on_ok_two c.keep_last.result
    (λ added watching. λ budget searching room.
    searching_kept p budget w u v x m.0 searching.going m.1 only logging c.args.level y un c.keep_last.new.self
    (record { trail = k.0; order = k.1; choice = k.2; log = k.3; since = k.4; added = added; watching = watching })
    (same_problem c.args.seat.now c.note_cycle.new.seat c.note_cycle.ensures.same) room
    (some_literal m.0.lits c.requires.new.literal (m.3 c.requires.new.literal c.requires.new.listed))
    (watching_undone p w u y c.args.level searching.watching c.requires.well only un))
    c.keep_last.ensures.added c.keep_last.ensures.watching

pub returns-clause-last : goal.returns-clause-last
returns-clause-last c =
    let s = c.requires.searching in
    let p = c.args.seat.now.view.problem in
    let w = c.args.self.now in
    let v = c.args.seat.now.view in
    let u = c.note_cycle.new.self in
    let x = c.note_cycle.new.seat.view in
    let y = c.undo.new.self in
    let m = c.in_ok-note_cycle.ensures.noted in
    let r = c.note_cycle.ensures.rest in
    let logging : IsLogging u.log x = c.note_cycle.ensures.silent.left.logging in
    let only : OnlyLogs w u = record { trail = r.0; store = r.1; order = r.2; choice = r.3; since = r.4 } in
    let un : HasUndone c.args.level u y = record { log = c.undo.ensures.same.0; since = c.undo.ensures.same.1; store = c.undo.ensures.same.2; trail = c.undo.ensures.trail; thinking = c.undo.ensures.thinking } in
    let k = c.keep_last.ensures.rest in
    on_ok_two c.keep_last.result
    (λ added watching.
    let kept : HasKept y c.keep_last.new.self = record { trail = k.0; order = k.1; choice = k.2; log = k.3; since = k.4; added = added; watching = watching } in
    let is = last_lemma p s.0 w u v x m.0 s.1.going m.1 only logging c.args.level y un added.0 added.1 in (
      m.0.lits,
      subst (λ ls. IsLast c.keep_last.new.self.log.entries ls) is (subst (λ (l : LogView). IsLast l.entries added.0) (sym k.3) added.1),
      m.2,
      m.3,
      lemma_listed p s.0 w u v x m.0 s.1.going m.1 only logging c.args.level y un c.keep_last.new.self kept (same_problem c.args.seat.now c.note_cycle.new.seat c.note_cycle.ensures.same),
    ))
    c.keep_last.ensures.added c.keep_last.ensures.watching
