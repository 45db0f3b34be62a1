use Rattle.std.proofs.Common.{◌≡◌, ℕ, ◌<◌, ◌≤◌, List, length, get_or, refl, ap, sym, ◌∙◌, subst, arith}
use Rattle.std.specs.Prelude.{Contains, All}
use Rattle.std.proofs.lemmas.List.Elements.{Contains-get_or}
use Rattle.std.proofs.lemmas.Result.{on_ok_weaker}
use Rattle.dg_base.specs.declared.Lit.{Lit}
use Rattle.cnf_problem.specs.Literals.{IsOver, IsWithoutRepeats}
use Rattle.trail_state.specs.Trails.{TrailView}
use Rattle.clause_exchange.specs.Steps.{mine}
use Rattle.worker_log.specs.Logs.{LogView}
use Rattle.worker_log.specs.Keeping.{IsLogging}
use Rattle.cdcl_worker.specs.Outcomes.{WorkerView}
use Rattle.cdcl_worker.proofs.Noted.{some_entry, log_longer, silent_same, silent_noted, silent_by}
use Rattle.cdcl_worker.proofs.Learnt.{all_each, learnt_over, learnt_may, learnt_some, learnt_watchable}
use Rattle.cdcl_worker.proofs.Steps.{OnlyLogs, HasUndone, last_over, last_watchable, searching_kept, watching_below, on_ok_two, same_problem}
use Rattle.cdcl_worker.proofs.worker.Worker.keep_learnt.Goals as goal

pub lemma_of-requires : goal.lemma_of-requires
lemma_of-requires c = subst (λ (ls : List Lit). IsWithoutRepeats ls) (sym c.as_slice.ensures) c.requires.may.3.learnt.no_repeats

pub returns-in_err-lemma-clause-silent : goal.returns-in_err-lemma-clause-silent
returns-in_err-lemma-clause-silent c = silent_same c.args.self.now c.args.seat.now.view c.args.seat.now.view c.requires.may.3.going.logging refl c.requires.may.3.going.silent

pub note-requires-clause-may : goal.note-requires-clause-may
note-requires-clause-may c =
    let r = rw (← c.self.view_is) at c.requires.may in
    let recent = rw (← c.self.view_is) at c.requires.recent in
    let same = rw c.as_slice.ensures at c.in_ok-lemma.ensures.same in
    learnt_may r.0 r.1 _ c.args.seat.now.view r.2 c.args.learnt.lits c.args.learnt.back r.3 c.know_well.ensures c.in_ok-lemma.lemma same.1 same.0 c.in_ok-lemma.ensures.kind recent

pub returns-in_err-note-clause-silent : goal.returns-in_err-note-clause-silent
returns-in_err-note-clause-silent c = silent_same _ c.args.seat.now.view c.note.new.seat.view c.note.ensures.logging c.in_err-note.ensures.err.1 c.requires.may.3.going.silent

pub bump-requires-clause-low : goal.bump-requires-clause-low
bump-requires-clause-low c =
    let r = rw (← c.self.view_is) at c.requires.may in
    let w : WorkerView = record { trail = c.self.inside.trail; store = c.self.inside.store; order = c.self.inside.order; choice = c.self.inside.choice; log = c.self.inside.log; since = c.self.inside.pace.since } in
    let lit : Lit = get_or c.as_slice-lit-items.result.now c.loop-lit.lit-index (record { 0 = 0 }) in
    let has : Contains c.args.learnt.lits lit = subst (λ ls. Contains ls lit) c.as_slice-lit-items.ensures (Contains-get_or c.as_slice-lit-items.result.now c.loop-lit.lit-index (record { 0 = 0 }) c.loop-lit-test.true) in
    let over = learnt_over r.0 r.1 w c.args.seat.now.view r.2 c.args.learnt.lits c.args.learnt.back r.3 c.know_well.ensures lit has in
    let low = over.0 in
    let high = over.1 in
    let is = c.var.ensures in
    let same = ap (λ (t : TrailView). t.vars) c.loop-lit.invariant.trail in
    omega arith

pub bump-requires-clause-high : goal.bump-requires-clause-high
bump-requires-clause-high c =
    let r = rw (← c.self.view_is) at c.requires.may in
    let w : WorkerView = record { trail = c.self.inside.trail; store = c.self.inside.store; order = c.self.inside.order; choice = c.self.inside.choice; log = c.self.inside.log; since = c.self.inside.pace.since } in
    let lit : Lit = get_or c.as_slice-lit-items.result.now c.loop-lit.lit-index (record { 0 = 0 }) in
    let has : Contains c.args.learnt.lits lit = subst (λ ls. Contains ls lit) c.as_slice-lit-items.ensures (Contains-get_or c.as_slice-lit-items.result.now c.loop-lit.lit-index (record { 0 = 0 }) c.loop-lit-test.true) in
    let over = learnt_over r.0 r.1 w c.args.seat.now.view r.2 c.args.learnt.lits c.args.learnt.back r.3 c.know_well.ensures lit has in
    let low = over.0 in
    let high = over.1 in
    let is = c.var.ensures in
    let same = ap (λ (t : TrailView). t.vars) c.loop-lit.invariant.trail in
    omega arith

pub keep_last-requires-clause-some : goal.keep_last-requires-clause-some
keep_last-requires-clause-some c =
    let log : c.undo.new.self.log ≡ c.note.new.self = c.undo.ensures.same.0 ∙ c.loop-lit.invariant.log in
    subst (λ (l : LogView). 0 < length l.entries) (sym log) (some_entry c.in_ok-lemma.lemma (mine c.args.seat.now.view) (mine c.note.new.seat.view) c.in_ok-note.ensures.noted c.note.new.self c.note.new.seat.view refl c.note.ensures.logging)

pub keep_last-requires-clause-watching : goal.keep_last-requires-clause-watching
keep_last-requires-clause-watching c =
    let r = rw (← c.self.view_is) at c.requires.may in
    let i = c.loop-lit.invariant in
    let w : WorkerView = record { trail = c.self.inside.trail; store = c.self.inside.store; order = c.self.inside.order; choice = c.self.inside.choice; log = c.self.inside.log; since = c.self.inside.pace.since } in
    let n = c.loop-lit.self-inside in
    let u : WorkerView = record { trail = n.trail; store = n.store; order = n.order; choice = n.choice; log = n.log; since = c.conflict.new.self.since } in
    let only : OnlyLogs w u = record { trail = i.trail; store = i.store; order = i.order; choice = i.choice; since = c.conflict.ensures ∙ ap (λ p. p.since) i.pace } in
    let un : HasUndone c.args.learnt.back u c.undo.new.self = record { log = c.undo.ensures.same.0; since = c.undo.ensures.same.1; store = c.undo.ensures.same.2; trail = c.undo.ensures.trail; thinking = c.undo.ensures.thinking } in
    (r.0, watching_below r.0 w u c.undo.new.self c.args.learnt.back r.3.below r.3.learnt.lower only un)

pub keep_last-requires-clause-over : goal.keep_last-requires-clause-over
keep_last-requires-clause-over c =
    let r = rw (← c.self.view_is) at c.requires.may in
    let i = c.loop-lit.invariant in
    let w : WorkerView = record { trail = c.self.inside.trail; store = c.self.inside.store; order = c.self.inside.order; choice = c.self.inside.choice; log = c.self.inside.log; since = c.self.inside.pace.since } in
    let n = c.loop-lit.self-inside in
    let u : WorkerView = record { trail = n.trail; store = n.store; order = n.order; choice = n.choice; log = n.log; since = c.conflict.new.self.since } in
    let only : OnlyLogs w u = record { trail = i.trail; store = i.store; order = i.order; choice = i.choice; since = c.conflict.ensures ∙ ap (λ p. p.since) i.pace } in
    let un : HasUndone c.args.learnt.back u c.undo.new.self = record { log = c.undo.ensures.same.0; since = c.undo.ensures.same.1; store = c.undo.ensures.same.2; trail = c.undo.ensures.trail; thinking = c.undo.ensures.thinking } in
    let lemma = c.in_ok-lemma.lemma in
    let v = c.args.seat.now.view in
    let x = c.note.new.seat.view in
    let notes = c.in_ok-note.ensures.noted in
    let logging : IsLogging u.log x = subst (λ (l : LogView). IsLogging l x) (sym i.log) c.note.ensures.logging in
    let same = rw c.as_slice.ensures at c.in_ok-lemma.ensures.same in
    let over : (l : Lit) → Contains lemma.lits l → IsOver r.0.vars l = λ l m. subst (λ k. IsOver k l) r.3.going.thinking.vars (learnt_over r.0 r.1 w v r.2 c.args.learnt.lits c.args.learnt.back r.3 c.know_well.ensures l (same.0 l m)) in
    λ clause last. all_each (IsOver c.undo.new.self.trail.vars) clause (last_over r.0 r.1 w u v x lemma r.3.going notes only logging c.args.learnt.back c.undo.new.self un over clause last)

pub keep_last-requires-clause-watchable : goal.keep_last-requires-clause-watchable
keep_last-requires-clause-watchable c =
    let r = rw (← c.self.view_is) at c.requires.may in
    let i = c.loop-lit.invariant in
    let w : WorkerView = record { trail = c.self.inside.trail; store = c.self.inside.store; order = c.self.inside.order; choice = c.self.inside.choice; log = c.self.inside.log; since = c.self.inside.pace.since } in
    let n = c.loop-lit.self-inside in
    let u : WorkerView = record { trail = n.trail; store = n.store; order = n.order; choice = n.choice; log = n.log; since = c.conflict.new.self.since } in
    let only : OnlyLogs w u = record { trail = i.trail; store = i.store; order = i.order; choice = i.choice; since = c.conflict.ensures ∙ ap (λ p. p.since) i.pace } in
    let un : HasUndone c.args.learnt.back u c.undo.new.self = record { log = c.undo.ensures.same.0; since = c.undo.ensures.same.1; store = c.undo.ensures.same.2; trail = c.undo.ensures.trail; thinking = c.undo.ensures.thinking } in
    let lemma = c.in_ok-lemma.lemma in
    let v = c.args.seat.now.view in
    let x = c.note.new.seat.view in
    let notes = c.in_ok-note.ensures.noted in
    let logging : IsLogging u.log x = subst (λ (l : LogView). IsLogging l x) (sym i.log) c.note.ensures.logging in
    let same = rw c.as_slice.ensures at c.in_ok-lemma.ensures.same in
    last_watchable r.0 r.1 w u v x lemma r.3.going notes only logging c.args.learnt.back c.undo.new.self un (learnt_watchable r.0 r.1 w v r.2 c.args.learnt.lits c.args.learnt.back r.3 c.know_well.ensures lemma same.1 same.0)

pub returns-clause-silent : goal.returns-clause-silent
returns-clause-silent c =
    let log : c.keep_last.new.self.log ≡ c.note.new.self = c.keep_last.ensures.rest.3 ∙ c.undo.ensures.same.0 ∙ c.loop-lit.invariant.log in
    let w : WorkerView = record { trail = c.self.inside.trail; store = c.self.inside.store; order = c.self.inside.order; choice = c.self.inside.choice; log = c.note.new.self; since = c.self.inside.pace.since } in
    silent_by (mine c.args.seat.now.view) w c.keep_last.new.self c.note.new.seat.view log (silent_noted w c.in_ok-lemma.lemma c.args.seat.now.view c.note.new.seat.view c.note.ensures.logging c.in_ok-note.ensures.noted c.requires.may.3.going.silent)

pub returns-clause-longer : goal.returns-clause-longer
returns-clause-longer c = on_ok_weaker c.keep_last.result (λ h. log_longer c.in_ok-lemma.lemma (mine c.args.seat.now.view) (mine c.note.new.seat.view) c.in_ok-note.ensures.noted) c.keep_last.ensures.added

pub returns-clause-searching : goal.returns-clause-searching
returns-clause-searching c =
    let r = rw (← c.self.view_is) at c.requires.may in
    let i = c.loop-lit.invariant in
    let w : WorkerView = record { trail = c.self.inside.trail; store = c.self.inside.store; order = c.self.inside.order; choice = c.self.inside.choice; log = c.self.inside.log; since = c.self.inside.pace.since } in
    let n = c.loop-lit.self-inside in
    let u : WorkerView = record { trail = n.trail; store = n.store; order = n.order; choice = n.choice; log = n.log; since = c.conflict.new.self.since } in
    let only : OnlyLogs w u = record { trail = i.trail; store = i.store; order = i.order; choice = i.choice; since = c.conflict.ensures ∙ ap (λ p. p.since) i.pace } in
    let un : HasUndone c.args.learnt.back u c.undo.new.self = record { log = c.undo.ensures.same.0; since = c.undo.ensures.same.1; store = c.undo.ensures.same.2; trail = c.undo.ensures.trail; thinking = c.undo.ensures.thinking } in
    let lemma = c.in_ok-lemma.lemma in
    let v = c.args.seat.now.view in
    let x = c.note.new.seat.view in
    let notes = c.in_ok-note.ensures.noted in
    let logging : IsLogging u.log x = subst (λ (l : LogView). IsLogging l x) (sym i.log) c.note.ensures.logging in
    let same = rw c.as_slice.ensures at c.in_ok-lemma.ensures.same in
    let k = c.keep_last.ensures.rest in
    on_ok_two c.keep_last.result
    (λ added watching. λ p budget conflict before.
    let may = rw (← c.self.view_is) at before in
    searching_kept p budget w u v x lemma may.going notes only logging c.args.learnt.back c.undo.new.self un c.keep_last.new.self
    (record { trail = k.0; order = k.1; choice = k.2; log = k.3; since = k.4; added = added; watching = watching })
    (same_problem c.args.seat.now c.note.new.seat c.note.ensures.same) may.room
    (learnt_some p budget w v conflict c.args.learnt.lits c.args.learnt.back may c.know_well.ensures lemma same.1 same.0)
    (watching_below p w u c.undo.new.self c.args.learnt.back may.below may.learnt.lower only un))
    c.keep_last.ensures.added c.keep_last.ensures.watching
