use Rattle.std.proofs.Common.{◌≡◌, ◌++◌, ℕ, sym, ap, arith, ◌∙◌}
use Rattle.std.specs.Prelude.{is_some, Option, Some, None, IfSome}
use Rattle.trail_state.specs.Trails.{TrailView}
use Rattle.trail_state.specs.Forcing.{AddsForced, none}
use Rattle.clause_store.proofs.Turns.{Begun, Ended, all_taken, turn_begins, turn_ends}
use Rattle.clause_store.proofs.Visits.{forced_then}
use Rattle.clause_store.proofs.propagate.visit_taken.Goals.{After-know_well, After-visit_all-conflict}
use Rattle.clause_store.proofs.propagate.visit_taken.Goals as goal

-- the turn's begin, its end, and what was forced by then
begun : (c : After-know_well) → Begun (c.args.first.now ++ c.args.added.now) c.loop-lit.links c.loop-lit.trail c.take_next.new.self c.in-Some.lit
begun c =
    turn_begins (c.args.first.now ++ c.args.added.now) c.args.trail.now.vars c.loop-lit.links c.loop-lit.trail c.take_next.new.self c.in-Some.lit
    c.loop-lit.invariant.watched c.loop-lit.invariant.few c.take_next.ensures.taken (sym c.take_next.ensures.next ∙ c.in-Some.is) c.know_well.ensures

ended : (c : After-visit_all-conflict) → Begun (c.args.first.now ++ c.args.added.now) c.loop-lit.links c.loop-lit.trail c.take_next.new.self c.in-Some.lit → Ended (c.args.first.now ++ c.args.added.now) c.args.trail.now.vars c.visit_all-conflict.new.links c.visit_all-conflict.new.trail (is_some c.visit_all-conflict.result)
ended c b =
    let e = c.visit_all-conflict.ensures in
    turn_ends (c.args.first.now ++ c.args.added.now) c.args.trail.now.vars c.loop-lit.links c.visit_all-conflict.new.links c.loop-lit.trail c.take_next.new.self c.visit_all-conflict.new.trail c.in-Some.lit _ (is_some c.visit_all-conflict.result)
    c.loop-lit.invariant.watched b.same e.vars e.taken e.forced e.roomy e.visiting

forced_so_far : (c : After-visit_all-conflict) → Begun (c.args.first.now ++ c.args.added.now) c.loop-lit.links c.loop-lit.trail c.take_next.new.self c.in-Some.lit → AddsForced (c.args.first.now ++ c.args.added.now) c.args.trail.now.entries c.visit_all-conflict.new.trail.entries
forced_so_far c b =
    let same = ap (λ (x : TrailView). x.entries) b.same in
    forced_then _ _ _ _ c.loop-lit.invariant.forced (rw same at c.visit_all-conflict.ensures.forced)

pub loop-lit-init : goal.loop-lit-init
loop-lit-init c = record { watched = c.requires.watched; few = c.requires.well.taken; forced = none }

pub visit_all-conflict-requires-clause-roomy : goal.visit_all-conflict-requires-clause-roomy
visit_all-conflict-requires-clause-roomy c = (begun (goal.at.visit_all-conflict-requires-clause-roomy c).After-know_well).room

pub visit_all-conflict-requires-clause-at : goal.visit_all-conflict-requires-clause-at
visit_all-conflict-requires-clause-at c = (begun (goal.at.visit_all-conflict-requires-clause-at c).After-know_well).at

pub visit_all-conflict-requires-clause-head : goal.visit_all-conflict-requires-clause-head
visit_all-conflict-requires-clause-head c = (begun (goal.at.visit_all-conflict-requires-clause-head c).After-know_well).head

pub visit_all-conflict-requires-clause-owing : goal.visit_all-conflict-requires-clause-owing
visit_all-conflict-requires-clause-owing c = (begun (goal.at.visit_all-conflict-requires-clause-owing c).After-know_well).owing

pub returns-then-is_some-clause-forced : goal.returns-then-is_some-clause-forced
returns-then-is_some-clause-forced c = forced_so_far (goal.at.returns-then-is_some-clause-forced c).After-visit_all-conflict (begun (goal.at.returns-then-is_some-clause-forced c).After-know_well)

pub returns-then-is_some-clause-below : goal.returns-then-is_some-clause-below
returns-then-is_some-clause-below c = by_result c.visit_all-conflict.result (ended (goal.at.returns-then-is_some-clause-below c).After-visit_all-conflict (begun (goal.at.returns-then-is_some-clause-below c).After-know_well)).below
  where
    by_result : {P : Type 0} (r : Option ℕ) → P → IfSome r (λ x. P)
    by_result None p = tt
    by_result (Some x) p = p

pub loop-lit-smaller : goal.loop-lit-smaller
loop-lit-smaller c =
    let b = begun (goal.at.loop-lit-smaller c).After-know_well in
    let e = c.visit_all-conflict.ensures in
    let left = b.left in
    let taken = e.taken ∙ ap (λ (x : TrailView). x.taken) b.same in
    let vars = e.vars ∙ ap (λ (x : TrailView). x.vars) b.same in
    omega arith

pub loop-lit-preserved : goal.loop-lit-preserved
loop-lit-preserved c =
    let d = (goal.at.loop-lit-preserved c).After-visit_all-conflict in
    let b = begun (goal.at.loop-lit-preserved c).After-know_well in
    record {
      watched = (ended d b).calm (sym c.is_some.ensures ∙ c.if-is_some.false);
      few = c.visit_all-conflict.ensures.at.within;
      forced = forced_so_far d b;
    }

pub returns-clause-watched : goal.returns-clause-watched
returns-clause-watched c =
    let gone : c.take_next.result ≡ None = c.in_default.is in
    rw ((all_taken c.loop-lit.trail c.take_next.new.self c.loop-lit.invariant.few c.take_next.ensures.taken (sym c.take_next.ensures.next ∙ gone)).0) c.loop-lit.invariant.watched

pub returns-clause-taken : goal.returns-clause-taken
returns-clause-taken c =
    let gone : c.take_next.result ≡ None = c.in_default.is in
    (all_taken c.loop-lit.trail c.take_next.new.self c.loop-lit.invariant.few c.take_next.ensures.taken (sym c.take_next.ensures.next ∙ gone)).1

pub returns-clause-forced : goal.returns-clause-forced
returns-clause-forced c = rw (ap (λ (x : TrailView). x.entries) c.take_next.ensures.taken) c.loop-lit.invariant.forced
