use Rattle.std.proofs.Common.{◌≡◌, ℕ, ◌<◌, List, length, refl, ap, sym, ◌∙◌, subst}
use Rattle.std.specs.Prelude.{Contains, All}
use Rattle.std.proofs.lemmas.List.Elements.{All-contains}
use Rattle.std.proofs.lemmas.Result.{on_ok_weaker}
use Rattle.cnf_problem.specs.Literals.{IsOver}
use Rattle.trail_state.specs.Trails.{TrailView, up_to}
use Rattle.clause_exchange.specs.Steps.{mine}
use Rattle.cdcl_worker.specs.Outcomes.{WorkerView}
use Rattle.cdcl_worker.proofs.Steps.{unit_new, implied_watchable}
use Rattle.cdcl_worker.proofs.worker.Worker.take_implied.Goals as goal

pub level_up_to-level-requires : goal.level_up_to-level-requires
level_up_to-level-requires c =
    let f = rw (← c.self.view_is) at c.requires.found in
    λ l has. subst (λ n. IsOver n l) (sym f.1.0.going.thinking.vars) (All-contains (IsOver c.args.seat.now.view.problem.vars) c.args.clause.now l f.1.2.0.over has)

pub keep_cycle-requires-clause-searching : goal.keep_cycle-requires-clause-searching
keep_cycle-requires-clause-searching c = let f = c.requires.found in (f.0, f.1.0, f.2)

pub keep_cycle-requires-clause-cycle : goal.keep_cycle-requires-clause-cycle
keep_cycle-requires-clause-cycle c = c.requires.found.1.2.0

pub keep_cycle-requires-clause-new : goal.keep_cycle-requires-clause-new
keep_cycle-requires-clause-new c =
    let f = rw (← c.self.view_is) at c.requires.found in
    let w : WorkerView = record { trail = c.self.inside.trail; store = c.self.inside.store; order = c.self.inside.order; choice = c.self.inside.choice; log = c.self.inside.log; since = c.self.inside.pace.since } in
    unit_new c.args.seat.now.view.problem w (mine c.args.seat.now.view) c.args.clause.now f.1.0.going.thinking f.1.1 c.know_well.ensures f.1.2.1

pub keep_cycle-requires-clause-watchable : goal.keep_cycle-requires-clause-watchable
keep_cycle-requires-clause-watchable c =
    let f = rw (← c.self.view_is) at c.requires.found in
    let can = implied_watchable c.self.inside.trail.entries c.args.clause.now c.level_up_to-level.result f.1.2.1 c.level_up_to-level.ensures.reached in
    rw (← c.self.view_is) can

pub returns-clause-searching : goal.returns-clause-searching
returns-clause-searching c = on_ok_weaker c.keep_cycle.result (λ h. λ budget found room. h budget found.0 room) c.keep_cycle.ensures.searching
