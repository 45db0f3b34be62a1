use Rattle.std.proofs.Common.{◌++◌, ◌<◌, refl, ap, sym, ◌∙◌, subst}
use Rattle.std.specs.Prelude.{All, Contains, option_map}
use Rattle.std.proofs.lemmas.List.Elements.{All-contains}
use Rattle.cnf_problem.specs.Chains.{IsFixpoint}
use Rattle.cnf_problem.specs.Literals.{IsOver, negated}
use Rattle.trail_state.specs.Trails.{TrailView, level, true_lits}
use Rattle.trail_state.specs.declared.reasons.ClauseId.{ClauseId}
use Rattle.clause_store.specs.Stores.{IsWatching, clauses_of}
use Rattle.unit_refuter.specs.Refuting.{AreDerived, HasOutcome, IsSettledToo, RefuterView}
use Rattle.unit_refuter.specs.declared.refuter.Denied.{Denied}
use Rattle.unit_refuter.proofs.Chaining.{denied_derived, ground_derived}
use Rattle.unit_refuter.proofs.Denying.{above_zero, denied_none, denied_watching}
use Rattle.unit_refuter.proofs.Raising.{denied_raised, derives_after, outcome_rest, outcome_satisfied, outcome_some, refuted_raised, rested_raised}
use Rattle.unit_refuter.proofs.refuter.Refuter.deny.Goals.{in-Some, in-None}
use Rattle.unit_refuter.proofs.refuter.Refuter.deny.Goals as goal

pub assume-requires-clause-over : goal.assume-requires-clause-over
assume-requires-clause-over c =
    let s = subst (λ (r : RefuterView). IsSettledToo c.args.problem.now c.requires.settled.0 r) (sym c.self.view_is) c.requires.settled.1 in
    let live = ap (λ (r : RefuterView). r.conflict) c.self.view_is ∙ c.requires.live in
    subst (λ v. All (IsOver v) c.args.lits.now) (sym (s.ready.live live).1.same_vars) c.requires.clause.over

pub assume-requires-clause-ground : goal.assume-requires-clause-ground
assume-requires-clause-ground c =
    let s = subst (λ (r : RefuterView). IsSettledToo c.args.problem.now c.requires.settled.0 r) (sym c.self.view_is) c.requires.settled.1 in
    s.ready.ground

pub returns-then-not-assume-clause-outcome : goal.returns-then-not-assume-clause-outcome
returns-then-not-assume-clause-outcome c clauses was =
    let s = subst (λ (r : RefuterView). IsSettledToo c.args.problem.now clauses r) (sym c.self.view_is) was in
    let e = c.if-not-assume.ensures.not_all refl in
    (e, outcome_satisfied c.args.problem.now clauses _ c.args.lits.now c.assume.new.trail.entries e.0 s c.requires.clause c.assume.ensures.denies e.1 e.2)

pub returns-then-not-assume-clause-derived : goal.returns-then-not-assume-clause-derived
returns-then-not-assume-clause-derived c =
    let s = subst (λ (r : RefuterView). IsSettledToo c.args.problem.now c.requires.settled.0 r) (sym c.self.view_is) c.requires.settled.1 in
    let cs = clauses_of c.args.problem.now c.self.inside.store in
    denied_derived cs c.args.lits.now c.self.inside.trail.entries c.assume.new.trail.entries c.assume.ensures.denies (ground_derived cs c.args.lits.now c.self.inside.trail.entries s.ready.ground s.ready.forced)

pub returns-then-not-assume-clause-raised : goal.returns-then-not-assume-clause-raised
returns-then-not-assume-clause-raised c clauses was =
    let s = subst (λ (r : RefuterView). IsSettledToo c.args.problem.now clauses r) (sym c.self.view_is) was in
    let live = ap (λ (r : RefuterView). r.conflict) c.self.view_is ∙ c.requires.live in
    denied_raised c.args.problem.now clauses _ _ c.args.lits.now s live c.assume.ensures.denies
    (ap (λ (t : TrailView). let r : RefuterView = record { store = c.self.inside.store; trail = t; conflict = option_map (λ (id : ClauseId). id.0) c.self.inside.conflict } in r) c.assume.ensures.same)

pub returns-then-level-eq0-clause-outcome : goal.returns-then-level-eq0-clause-outcome
returns-then-level-eq0-clause-outcome c clauses was =
    let s = subst (λ (r : RefuterView). IsSettledToo c.args.problem.now clauses r) (sym c.self.view_is) was in
    let live = ap (λ (r : RefuterView). r.conflict) c.self.view_is ∙ c.requires.live in
    let entries = c.assume.new.trail.entries in
    let same = denied_none c.args.lits.now c.self.inside.trail.entries entries s.ready.ground c.assume.ensures.denies (sym c.level.ensures ∙ c.if-level-eq0.true) in
    record {
      negations = λ l m. All-contains (λ x. Contains (true_lits entries) (negated x)) c.args.lits.now l (c.if-not-assume.ensures.all refl) m;
      fixpoint = subst (λ es. IsFixpoint (c.args.problem.now.clauses ++ clauses) (true_lits es)) (sym same) (s.fixpoint live);
    }

pub returns-then-level-eq0-clause-derived : goal.returns-then-level-eq0-clause-derived
returns-then-level-eq0-clause-derived c =
    let s = subst (λ (r : RefuterView). IsSettledToo c.args.problem.now c.requires.settled.0 r) (sym c.self.view_is) c.requires.settled.1 in
    let cs = clauses_of c.args.problem.now c.self.inside.store in
    denied_derived cs c.args.lits.now c.self.inside.trail.entries c.assume.new.trail.entries c.assume.ensures.denies (ground_derived cs c.args.lits.now c.self.inside.trail.entries s.ready.ground s.ready.forced)

pub returns-then-level-eq0-clause-raised : goal.returns-then-level-eq0-clause-raised
returns-then-level-eq0-clause-raised c clauses was =
    let s = subst (λ (r : RefuterView). IsSettledToo c.args.problem.now clauses r) (sym c.self.view_is) was in
    let live = ap (λ (r : RefuterView). r.conflict) c.self.view_is ∙ c.requires.live in
    denied_raised c.args.problem.now clauses _ _ c.args.lits.now s live c.assume.ensures.denies
    (ap (λ (t : TrailView). let r : RefuterView = record { store = c.self.inside.store; trail = t; conflict = option_map (λ (id : ClauseId). id.0) c.self.inside.conflict } in r) c.assume.ensures.same)

pub propagate-requires : goal.propagate-requires
propagate-requires c =
    let p = c.args.problem.now in
    let s = subst (λ (r : RefuterView). IsSettledToo p c.requires.settled.0 r) (sym c.self.view_is) c.requires.settled.1 in
    let live = ap (λ (r : RefuterView). r.conflict) c.self.view_is ∙ c.requires.live in
    record {
      watching = subst (λ (t : TrailView). IsWatching p c.self.inside.store t) (sym c.assume.ensures.same)
          (denied_watching p c.self.inside.store c.self.inside.trail c.args.lits.now c.assume.new.trail.entries c.assume.ensures.denies (s.ready.live live).1 (s.settled live));
    }

pub returns-clause-outcome : goal.returns-clause-outcome
returns-clause-outcome c clauses was =
    let p = c.args.problem.now in
    let lits = c.args.lits.now in
    let entries = c.assume.new.trail.entries in
    let s = subst (λ (r : RefuterView). IsSettledToo p clauses r) (sym c.self.view_is) was in
    let live = ap (λ (r : RefuterView). r.conflict) c.self.view_is ∙ c.requires.live in
    let now : RefuterView = record { store = c.propagate.new.self; trail = c.propagate.new.trail; conflict = option_map (λ (id : ClauseId). id.0) c.self.inside.conflict } in
    elim c.match-propagate.branch [
      | in-Some w ↦ subst (λ (d : Denied). HasOutcome p clauses lits now d) (sym w.result-is) (outcome_some p clauses _ now lits entries w.in-Some.clause s c.assume.ensures.denies c.propagate.ensures.forced c.propagate.ensures.added w.in-Some.ensures.some)
      | in-None w ↦ subst (λ (d : Denied). HasOutcome p clauses lits now d) (sym w.result-is) (outcome_rest p clauses _ lits entries now.trail.entries s live c.propagate.ensures.forced (c.if-not-assume.ensures.all refl) w.in-None.ensures.none)
    ]

pub returns-clause-derived : goal.returns-clause-derived
returns-clause-derived c =
    let p = c.args.problem.now in
    let s = subst (λ (r : RefuterView). IsSettledToo p c.requires.settled.0 r) (sym c.self.view_is) c.requires.settled.1 in
    subst (λ z. AreDerived (p.clauses ++ z) c.args.lits.now c.propagate.new.trail.entries) (sym c.propagate.ensures.added)
    (derives_after p c.requires.settled.0 _ c.args.lits.now c.assume.new.trail.entries c.propagate.new.trail.entries s.ready c.assume.ensures.denies c.propagate.ensures.forced)

pub returns-clause-raised : goal.returns-clause-raised
returns-clause-raised c clauses was =
    let p = c.args.problem.now in
    let lits = c.args.lits.now in
    let entries = c.assume.new.trail.entries in
    let s = subst (λ (r : RefuterView). IsSettledToo p clauses r) (sym c.self.view_is) was in
    let live = ap (λ (r : RefuterView). r.conflict) c.self.view_is ∙ c.requires.live in
    let now : RefuterView = record { store = c.propagate.new.self; trail = c.propagate.new.trail; conflict = option_map (λ (id : ClauseId). id.0) c.self.inside.conflict } in
    let high : 0 < level entries = above_zero (level entries) (λ z. c.if-level-eq0.false (c.level.ensures ∙ z)) in
    elim c.match-propagate.branch [
      | in-Some w ↦ refuted_raised p clauses _ now lits entries s live c.assume.ensures.denies high c.propagate.ensures.forced c.propagate.ensures.added refl w.in-Some.ensures.below
      | in-None w ↦ rested_raised p clauses _ now lits entries s live c.assume.ensures.denies high c.propagate.ensures.forced c.propagate.ensures.added refl w.in-None.ensures.watching w.in-None.ensures.settled
    ]
