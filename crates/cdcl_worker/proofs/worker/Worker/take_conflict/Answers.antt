use Rattle.std.proofs.Common.{◌≡◌, ◌≢◌, ℕ, ◌+◌, ◌<◌, ◌≤◌, List, [], ◌++◌, length, refl, ap, sym, ◌∙◌, subst, arith}
use Rattle.std.specs.Prelude.{Contains, All}
use Rattle.std.proofs.lemmas.List.Elements.{All-contains}
use Rattle.dg_base.specs.declared.Lit.{Lit}
use Rattle.cnf_problem.specs.declared.problem.Problem.{Problem}
use Rattle.cnf_problem.specs.Literals.{var, IsOver}
use Rattle.cnf_problem.specs.Laws.{IsWithin}
use Rattle.cnf_problem.specs.Chains.{AllFalse, IsNew}
use Rattle.trail_state.proofs.Cuts.{level-up_to}
use Rattle.trail_state.specs.Trails.{TrailView, true_lits, level, level_of, up_to, IsAssigned}
use Rattle.clause_store.specs.Stores.{CanBeWatched, clauses_of}
use Rattle.order_solver.specs.Ordering.{IsCycleClause}
use Rattle.clause_exchange.specs.declared.rule.View.{View}
use Rattle.clause_exchange.specs.Steps.{mine}
use Rattle.worker_log.specs.Newness.{knows}
use Rattle.cdcl_worker.specs.declared.search.Found.TheVariants.{Conflict}
use Rattle.cdcl_worker.specs.Outcomes.{WorkerView, IsOutcome}
use Rattle.cdcl_worker.specs.Searching.{IsSearching, HasFound, HasTwoAt, IsLeft}
use Rattle.cdcl_worker.proofs.Levels.{false_assigned}
use Rattle.cdcl_worker.proofs.Noted.{left_then}
use Rattle.cdcl_worker.proofs.Steps.{conflict_new, high_some, at_most_top, lower_watchable, two_watchable, false_at_top, of_cut}
use Rattle.cdcl_worker.proofs.worker.Worker.take_conflict.Goals as goal

-- the number's log is as long as the worker's
in_room : (p : Problem) (budget n : ℕ) (w : WorkerView) (v : View) → IsSearching p budget w v → n ≡ length w.log.entries → n < budget → length (mine v).log < budget
in_room p budget n w v searching is lt = let long = searching.going.logging.booked.log.long in omega arith

pub level_up_to-top-requires : goal.level_up_to-top-requires
level_up_to-top-requires c =
    let f = rw (← c.self.view_is) at c.requires.found in
    λ l has. subst (λ n. IsOver n l) (sym f.0.going.thinking.vars) (All-contains (IsOver c.args.problem.now.vars) c.args.clause.now l f.2.0.over has)

pub level_up_to-second-requires : goal.level_up_to-second-requires
level_up_to-second-requires c =
    let f = rw (← c.self.view_is) at c.requires.found in
    λ l has. subst (λ n. IsOver n l) (sym f.0.going.thinking.vars) (All-contains (IsOver c.args.problem.now.vars) c.args.clause.now l f.2.0.over has)

pub take_last_conflict-requires-clause-found : goal.take_last_conflict-requires-clause-found
take_last_conflict-requires-clause-found c = (c.args.budget, subst (λ q. HasFound q c.args.budget c.args.self.now c.args.seat.now.view (Conflict c.args.clause.now)) (sym c.requires.found.0.going.problem) c.requires.found, c.requires.room)

pub take_last_conflict-requires-clause-ground : goal.take_last_conflict-requires-clause-ground
take_last_conflict-requires-clause-ground c =
    let f = rw (← c.self.view_is) at c.requires.found in
    let top = c.level_up_to-top.result in
    let entries = c.self.inside.trail.entries in
    let greatest : (l : Lit) → Contains c.args.clause.now l → IsAssigned entries (var l) → level_of (var l) entries ≤ level entries → level_of (var l) entries ≤ top = λ l has assigned le. c.level_up_to-top.ensures.greatest l has assigned (let e = c.level.ensures in omega arith) in
    rw (← c.self.view_is) (λ l has. (let le = at_most_top c.self.inside.trail c.args.clause.now f.2.1 top greatest l has in let none = c.if-top-eq0.true in omega arith))

pub returns-then-top-eq0-clause-some : goal.returns-then-top-eq0-clause-some
returns-then-top-eq0-clause-some c = subst (λ q. IsOutcome q c.args.budget (mine c.args.seat.now.view) (mine c.take_last_conflict.new.seat.view) c.in_ok-take_last_conflict.field-0) c.requires.found.0.going.problem (c.in_ok-take_last_conflict.ensures.outcome c.args.budget)

pub has_two_at-requires-clause-assigned : goal.has_two_at-requires-clause-assigned
has_two_at-requires-clause-assigned c =
    let f = rw (← c.self.view_is) at c.requires.found in
    λ l has. false_assigned c.self.inside.trail.entries l (f.2.1 l has)

pub has_two_at-requires-clause-no_repeats : goal.has_two_at-requires-clause-no_repeats
has_two_at-requires-clause-no_repeats c = c.requires.found.2.0.no_repeats

pub keep_cycle-requires-clause-searching : goal.keep_cycle-requires-clause-searching
keep_cycle-requires-clause-searching c = (c.args.budget, subst (λ q. IsSearching q c.args.budget c.args.self.now c.args.seat.now.view) (sym c.requires.found.0.going.problem) c.requires.found.0, c.requires.room)

pub keep_cycle-requires-clause-well : goal.keep_cycle-requires-clause-well
keep_cycle-requires-clause-well c = rw (← c.self.view_is) c.know_well.ensures

pub keep_cycle-requires-clause-cycle : goal.keep_cycle-requires-clause-cycle
keep_cycle-requires-clause-cycle c = subst (λ q. IsCycleClause q c.args.clause.now) (sym c.requires.found.0.going.problem) c.requires.found.2.0

pub keep_cycle-requires-clause-new : goal.keep_cycle-requires-clause-new
keep_cycle-requires-clause-new c =
    let f = rw (← c.self.view_is) at c.requires.found in
    let w : WorkerView = record { trail = c.self.inside.trail; store = c.self.inside.store; order = c.self.inside.order; choice = c.self.inside.choice; log = c.self.inside.log; since = c.self.inside.pace.since } in
    let some : c.args.clause.now ≢ [] = high_some c.self.inside.trail.entries c.args.clause.now c.level_up_to-top.result c.if-top-eq0.false c.level_up_to-top.ensures.reached in
    subst (λ (q : Problem). IsNew (q.clauses ++ knows (mine c.args.seat.now.view)) c.args.clause.now) (sym f.0.going.problem)
    (conflict_new c.args.problem.now w (mine c.args.seat.now.view) c.args.clause.now f.0.going.thinking f.1 c.know_well.ensures f.2.1 some)

pub keep_cycle-requires-clause-watchable : goal.keep_cycle-requires-clause-watchable
keep_cycle-requires-clause-watchable c =
    let can = lower_watchable c.self.inside.trail.entries c.args.clause.now c.level_up_to-second.result c.level_up_to-top.result (let a = c.level_up_to-second.ensures.within in let b = c.if-top-eq0.false in omega arith) c.level_up_to-top.ensures.reached c.level_up_to-second.ensures.reached in
    rw (← c.self.view_is) can

pub returns-then-not-has_two_at-clause-none : goal.returns-then-not-has_two_at-clause-none
returns-then-not-has_two_at-clause-none c =
    let v = c.args.seat.now.view in
    let here = subst (λ q. IsSearching q c.args.budget c.args.self.now v) (sym c.requires.found.0.going.problem) c.requires.found.0 in (
      subst (λ q. IsSearching q c.args.budget c.keep_cycle.new.self c.keep_cycle.new.seat.view) c.requires.found.0.going.problem (c.in_ok-keep_cycle.ensures.searching c.args.budget here c.requires.room),
      (let longer = c.in_ok-keep_cycle.ensures.longer in omega arith),
    )

pub keep_cycle-requires-2-clause-searching : goal.keep_cycle-requires-2-clause-searching
keep_cycle-requires-2-clause-searching c = (c.args.budget, subst (λ q. IsSearching q c.args.budget c.args.self.now c.args.seat.now.view) (sym c.requires.found.0.going.problem) c.requires.found.0, c.requires.room)

pub keep_cycle-requires-2-clause-well : goal.keep_cycle-requires-2-clause-well
keep_cycle-requires-2-clause-well c = rw (← c.self.view_is) c.know_well.ensures

pub keep_cycle-requires-2-clause-cycle : goal.keep_cycle-requires-2-clause-cycle
keep_cycle-requires-2-clause-cycle c = subst (λ q. IsCycleClause q c.args.clause.now) (sym c.requires.found.0.going.problem) c.requires.found.2.0

pub keep_cycle-requires-2-clause-new : goal.keep_cycle-requires-2-clause-new
keep_cycle-requires-2-clause-new c =
    let f = rw (← c.self.view_is) at c.requires.found in
    let w : WorkerView = record { trail = c.self.inside.trail; store = c.self.inside.store; order = c.self.inside.order; choice = c.self.inside.choice; log = c.self.inside.log; since = c.self.inside.pace.since } in
    let some : c.args.clause.now ≢ [] = high_some c.self.inside.trail.entries c.args.clause.now c.level_up_to-top.result c.if-top-eq0.false c.level_up_to-top.ensures.reached in
    subst (λ (q : Problem). IsNew (q.clauses ++ knows (mine c.args.seat.now.view)) c.args.clause.now) (sym f.0.going.problem)
    (conflict_new c.args.problem.now w (mine c.args.seat.now.view) c.args.clause.now f.0.going.thinking f.1 c.know_well.ensures f.2.1 some)

pub keep_cycle-requires-2-clause-watchable : goal.keep_cycle-requires-2-clause-watchable
keep_cycle-requires-2-clause-watchable c =
    let two : HasTwoAt c.self.inside.trail.entries c.args.clause.now c.level_up_to-top.result = c.has_two_at.ensures c.if-not-has_two_at.false in
    let can : (lits : List Lit) → IsWithin c.args.clause.now lits → 0 < level (up_to c.level_up_to-top.result c.self.inside.trail.entries) → CanBeWatched (up_to c.level_up_to-top.result c.self.inside.trail.entries) lits = λ lits within above. two_watchable c.self.inside.trail.entries c.args.clause.now lits within c.level_up_to-top.result two in
    rw (← c.self.view_is) can

pub returns-in_err-take_last_conflict-clause-left : goal.returns-in_err-take_last_conflict-clause-left
returns-in_err-take_last_conflict-clause-left c = c.take_last_conflict.ensures.left

pub returns-then-top-eq0-clause-left : goal.returns-then-top-eq0-clause-left
returns-then-top-eq0-clause-left c = c.take_last_conflict.ensures.left

pub returns-in_err-keep_cycle-clause-left : goal.returns-in_err-keep_cycle-clause-left
returns-in_err-keep_cycle-clause-left c = c.keep_cycle.ensures.silent.left

pub returns-then-not-has_two_at-clause-left : goal.returns-then-not-has_two_at-clause-left
returns-then-not-has_two_at-clause-left c = c.keep_cycle.ensures.silent.left

pub returns-in_err-keep_cycle-2-clause-left : goal.returns-in_err-keep_cycle-2-clause-left
returns-in_err-keep_cycle-2-clause-left c = c.keep_cycle-2.ensures.silent.left

pub returns-then-len-budget-clause-left : goal.returns-then-len-budget-clause-left
returns-then-len-budget-clause-left c = c.keep_cycle-2.ensures.silent.left

pub returns-then-len-budget-clause-none : goal.returns-then-len-budget-clause-none
returns-then-len-budget-clause-none c =
    let v = c.args.seat.now.view in
    let here = subst (λ q. IsSearching q c.args.budget c.args.self.now v) (sym c.requires.found.0.going.problem) c.requires.found.0 in (
      subst (λ q. IsSearching q c.args.budget c.keep_cycle-2.new.self c.keep_cycle-2.new.seat.view) c.requires.found.0.going.problem (c.in_ok-keep_cycle-2.ensures.searching c.args.budget here c.requires.room),
      (let longer = c.in_ok-keep_cycle-2.ensures.longer in omega arith),
    )

pub learn_from_cycle-requires-clause-searching : goal.learn_from_cycle-requires-clause-searching
learn_from_cycle-requires-clause-searching c =
    let v = c.args.seat.now.view in
    let here = subst (λ q. IsSearching q c.args.budget c.args.self.now v) (sym c.requires.found.0.going.problem) c.requires.found.0 in
    let s = subst (λ q. IsSearching q c.args.budget c.keep_cycle-2.new.self c.keep_cycle-2.new.seat.view) c.requires.found.0.going.problem (c.in_ok-keep_cycle-2.ensures.searching c.args.budget here c.requires.room) in
    (c.args.budget, s, in_room c.args.problem.now c.args.budget c.len.result c.keep_cycle-2.new.self c.keep_cycle-2.new.seat.view s (c.len.ensures ∙ ap (λ (w : WorkerView). length w.log.entries) c.self-2.view_is) c.if-len-budget.false)

pub learn_from_cycle-requires-clause-above : goal.learn_from_cycle-requires-clause-above
learn_from_cycle-requires-clause-above c =
    let top = c.level_up_to-top.result in
    let is : c.keep_cycle-2.new.self.trail.entries ≡ up_to top c.args.self.now.trail.entries = c.in_ok-keep_cycle-2.ensures.trail.0 in
    let le : top ≤ level c.self.inside.trail.entries = (let a = c.level_up_to-top.ensures.within in let e = c.level.ensures in omega arith) in
    let here = subst (λ (w : WorkerView). top ≤ level w.trail.entries) c.self.view_is le in
    let cut : level c.keep_cycle-2.new.self.trail.entries ≡ top = ap level is ∙ level-up_to top c.args.self.now.trail.entries here in
    (let none = c.if-top-eq0.false in omega arith)

pub learn_from_cycle-requires-clause-last : goal.learn_from_cycle-requires-clause-last
learn_from_cycle-requires-clause-last c =
    let f = rw (← c.self.view_is) at c.requires.found in
    let t = c.self.inside.trail in
    let clause = c.args.clause.now in
    let top = c.level_up_to-top.result in
    let z = c.keep_cycle-2.new.self in
    let greatest : (l : Lit) → Contains clause l → IsAssigned t.entries (var l) → level_of (var l) t.entries ≤ level t.entries → level_of (var l) t.entries ≤ top = λ l has assigned le. c.level_up_to-top.ensures.greatest l has assigned (let e = c.level.ensures in omega arith) in
    let le : top ≤ level t.entries = (let a = c.level_up_to-top.ensures.within in let e = c.level.ensures in omega arith) in
    let two : HasTwoAt t.entries clause top = c.has_two_at.ensures c.if-not-has_two_at.false in
    let last = c.in_ok-keep_cycle-2.ensures.last in
    let is : z.trail.entries ≡ up_to top t.entries = c.in_ok-keep_cycle-2.ensures.trail.0 ∙ sym (ap (λ (w : WorkerView). up_to top w.trail.entries) c.self.view_is) in
    let wrong = subst (λ es. AllFalse (true_lits es) last.0) (sym is) (false_at_top t clause f.2.1 top greatest c.know_well.ensures last.0 last.2) in
    let high = of_cut t clause f.2.1 top greatest last.0 last.3 le two.first two.first_listed two.first_level in (
      last.0,
      last.1,
      subst (λ q. Contains (clauses_of q z.store) last.0) c.requires.found.0.going.problem last.4,
      wrong,
      subst (λ es. (l : Lit) × Contains last.0 l × (level_of (var l) es ≡ level es)) (sym is) high,
    )

pub learn_from_cycle-requires-clause-recent : goal.learn_from_cycle-requires-clause-recent
learn_from_cycle-requires-clause-recent c =
    let longer = c.in_ok-keep_cycle-2.ensures.longer in
    let since = c.in_ok-keep_cycle-2.ensures.trail.1 in
    let recent = c.requires.recent in
    omega arith

pub returns-in_err-learn_from_cycle-clause-left : goal.returns-in_err-learn_from_cycle-clause-left
returns-in_err-learn_from_cycle-clause-left c = left_then (mine c.args.seat.now.view) c.keep_cycle-2.new.self c.learn_from_cycle.new.self c.keep_cycle-2.new.seat.view c.learn_from_cycle.new.seat.view c.keep_cycle-2.ensures.silent.left c.learn_from_cycle.ensures.silent.left

pub returns-clause-left : goal.returns-clause-left
returns-clause-left c = left_then (mine c.args.seat.now.view) c.keep_cycle-2.new.self c.learn_from_cycle.new.self c.keep_cycle-2.new.seat.view c.learn_from_cycle.new.seat.view c.keep_cycle-2.ensures.silent.left c.learn_from_cycle.ensures.silent.left

pub returns-clause-none : goal.returns-clause-none
returns-clause-none c =
    let v = c.args.seat.now.view in
    let here = subst (λ q. IsSearching q c.args.budget c.args.self.now v) (sym c.requires.found.0.going.problem) c.requires.found.0 in
    let s = subst (λ q. IsSearching q c.args.budget c.keep_cycle-2.new.self c.keep_cycle-2.new.seat.view) c.requires.found.0.going.problem (c.in_ok-keep_cycle-2.ensures.searching c.args.budget here c.requires.room) in (
      c.in_ok-learn_from_cycle.ensures.searching c.args.budget s (in_room c.args.problem.now c.args.budget c.len.result c.keep_cycle-2.new.self c.keep_cycle-2.new.seat.view s (c.len.ensures ∙ ap (λ (w : WorkerView). length w.log.entries) c.self-2.view_is) c.if-len-budget.false),
      (let a = c.in_ok-keep_cycle-2.ensures.longer in let b = c.in_ok-learn_from_cycle.ensures.longer in omega arith),
    )

pub take_last_conflict-requires-clause-recent : goal.take_last_conflict-requires-clause-recent
take_last_conflict-requires-clause-recent c = c.requires.recent

pub keep_cycle-requires-clause-recent : goal.keep_cycle-requires-clause-recent
keep_cycle-requires-clause-recent c = (let recent = c.requires.recent in omega arith)

pub keep_cycle-requires-2-clause-recent : goal.keep_cycle-requires-2-clause-recent
keep_cycle-requires-2-clause-recent c = (let recent = c.requires.recent in omega arith)
