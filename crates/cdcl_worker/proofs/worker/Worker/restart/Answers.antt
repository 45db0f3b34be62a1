use Rattle.std.proofs.Common.{◌≡◌, ◌≤◌, ◌++◌, length, refl, ap, sym, ◌∙◌, subst, arith}
use Rattle.trail_state.specs.Trails.{level, IsWell}
use Rattle.trail_state.proofs.Cuts.{level-up_to}
use Rattle.clause_store.specs.Stores.{IsWatching}
use Rattle.clause_exchange.specs.Seats.{ExchangeId}
use Rattle.clause_exchange.specs.Steps.{mine}
use Rattle.cdcl_worker.specs.Outcomes.{WorkerView}
use Rattle.cdcl_worker.proofs.Steps.{HasUndone, watching_undone}
use Rattle.cdcl_worker.proofs.Restarted.{HasHeard, restarted, both_ok, any_ok}
use Rattle.cdcl_worker.proofs.worker.Worker.restart.Goals as goal

pub add_all-requires-clause-watching : goal.add_all-requires-clause-watching
add_all-requires-clause-watching c =
    let p = c.requires.may.0 in
    let may = c.requires.may.2 in
    let w = c.args.self.now in
    let well = subst (λ (x : WorkerView). IsWell x.trail) c.self.view_is c.know_well.ensures in
    let un : HasUndone 0 w c.undo.new.self = record { log = c.undo.ensures.same.0; since = c.undo.ensures.same.1; store = c.undo.ensures.same.2; trail = c.undo.ensures.trail; thinking = c.undo.ensures.thinking } in (
      p,
      subst (λ (x : WorkerView). IsWatching p x.store x.trail) (sym c.self-2.view_is)
          (watching_undone p w w c.undo.new.self 0 may.watching well (record { trail = refl; store = refl; order = refl; choice = refl; since = refl }) un),
    )

pub add_all-requires-clause-ground : goal.add_all-requires-clause-ground
add_all-requires-clause-ground c =
    subst (λ (x : WorkerView). level x.trail.entries ≡ 0) (sym c.self-2.view_is)
    (ap level c.undo.ensures.trail.entries ∙ level-up_to 0 c.args.self.now.trail.entries (omega arith))

pub returns-clause-ground : goal.returns-clause-ground
returns-clause-ground c =
    any_ok c.add_all.result (
      subst (λ (x : WorkerView). level x.trail.entries ≡ 0) (sym c.self-2.view_is)
          (ap level c.undo.ensures.trail.entries ∙ level-up_to 0 c.args.self.now.trail.entries (omega arith)),
      c.looked.ensures ∙ c.len.ensures ∙ c.heed.ensures.logging.booked.log.long,
    )

pub returns-clause-searching : goal.returns-clause-searching
returns-clause-searching c =
    let w = c.args.self.now in
    let y = c.undo.new.self in
    let well = subst (λ (x : WorkerView). IsWell x.trail) c.self.view_is c.know_well.ensures in
    let un : HasUndone 0 w y = record { log = c.undo.ensures.same.0; since = c.undo.ensures.same.1; store = c.undo.ensures.same.2; trail = c.undo.ensures.trail; thinking = c.undo.ensures.thinking } in
    let since = c.looked.ensures ∙ c.len.ensures ∙ c.heed.ensures.logging.booked.log.long in
    both_ok c.add_all.result c.add_all.ensures.added c.add_all.ensures.watching (λ added watching p budget may.
    let has : HasHeard c.in_ok-heard.heard y _ = record {
      trail = ap (λ (x : WorkerView). x.trail) c.self-2.view_is;
      order = ap (λ (x : WorkerView). x.order) c.self-2.view_is;
      choice = ap (λ (x : WorkerView). x.choice) c.self-2.view_is;
      added = added ∙ ap (λ (x : WorkerView). x.store.added ++ c.in_ok-heard.heard) c.self-2.view_is;
      watching = λ q h. watching q (subst (λ (x : WorkerView). IsWatching q x.store x.trail) (sym c.self-2.view_is) h);
    } in
    restarted p budget w y _ c.args.seat.now.view c.heed.new.seat.view c.args.seat.now.view.problem.vars c.in_ok-heard.heard un well c.heed.ensures.logging c.heed.ensures.only
    (ap (λ (e : ExchangeId). e.problem) c.heed.ensures.same) c.in_ok-heard.ensures.heeding since has c.in_ok-heard.ensures.heard may)
