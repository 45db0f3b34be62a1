-- A refuter that is raised is ready again once its assumptions are undone.
use Rattle.std.proofs.Common.{◌≡◌, ℕ, ◌<◌, ◌≤◌, inl, inr, Some, None, List, [], ◌∷◌, ◌++◌, length, map, refl, ap, sym, ◌∙◌, subst, append_assoc, arith}
use Rattle.std.specs.Prelude.{All, Contains, slice_get}
use Rattle.std.proofs.lemmas.List.{append-nil}
use Rattle.std.proofs.lemmas.List.Elements.{All-contains, Contains-append_cases, Contains-append_left, Contains-append_right}
use Rattle.dg_base.specs.declared.Lit.{Lit}
use Rattle.dg_base.proofs.Lists.{get_append_left, get_nothing}
use Rattle.cnf_problem.specs.Chains.{IsFixpoint, ReachesConflict}
use Rattle.cnf_problem.specs.Laws.{IsWithin}
use Rattle.cnf_problem.specs.Literals.{negated}
use Rattle.cnf_problem.specs.declared.problem.Problem.{Problem}
use Rattle.cnf_problem.proofs.ChainLaws.{conflict_more}
use Rattle.trail_state.specs.Forcing.{AddsForced, AreForced, IsConflict}
use Rattle.trail_state.specs.declared.reasons.ClauseId.{ClauseId}
use Rattle.trail_state.specs.Trails.{Assigned, Forced, TrailView, level, true_lits, up_to}
use Rattle.clause_store.specs.Stores.{IsSettled, IsWatching, WatchesBelow, clauses_of}
use Rattle.clause_store.proofs.TrailLaws.{undone}
use Rattle.unit_refuter.specs.Refuting.{AreDerived, CanBeRefuted, Denies, HasOutcome, IsRaised, IsReady, IsRest, IsSettledToo, RefuterView}
use Rattle.unit_refuter.specs.declared.refuter.Denied.TheVariants.{Conflict}
use Rattle.unit_refuter.proofs.Chaining.{added_derived, conflict_reached, denied_derived, derived_forced, ground_derived, satisfied_reached}
use Rattle.unit_refuter.proofs.Denying.{added_above, added_level, added_within, denied_level, denied_taken, denied_watching, ground_cut}

-- ---- from some clauses to more

pub known_within : (p : Problem) (clauses : List (List Lit)) (r : RefuterView) → IsReady p clauses r → IsWithin (clauses_of p r.store) (p.clauses ++ clauses)
known_within p clauses r ready x c =
    elim (Contains-append_cases p.clauses r.store.added x c) [
      | inl own ↦ Contains-append_left p.clauses clauses x own
      | inr more ↦ Contains-append_right p.clauses clauses x (subst (λ z. Contains z x) (sym ready.known) (Contains-append_left r.store.added ready.further x more))
    ]

pub reached_by_all : (p : Problem) (clauses : List (List Lit)) (r : RefuterView) (start : List Lit) → IsReady p clauses r → ReachesConflict (clauses_of p r.store) start → ReachesConflict (p.clauses ++ clauses) start
reached_by_all p clauses r start ready q = conflict_more (clauses_of p r.store) (p.clauses ++ clauses) start start (known_within p clauses r ready) (λ x c. c) q

-- while no clause is false, all were added
pub all_added : (p : Problem) (clauses : List (List Lit)) (r : RefuterView) → IsReady p clauses r → r.conflict ≡ None → clauses_of p r.store ≡ p.clauses ++ clauses
all_added p clauses r ready live = ap (λ z. p.clauses ++ z) (sym (ready.known ∙ (ap (λ z. r.store.added ++ z) (ready.live live).0 ∙ append-nil r.store.added)))

-- ---- clauses that are added

pub forced_more : (cs more : List (List Lit)) (entries : List Assigned) → AreForced cs entries → AreForced (cs ++ more) entries
forced_more cs more entries f i id l e =
    let by = f i id l e in
    record { clause = by.clause; named = get_append_left cs more id by.clause by.named; has = by.has; others_false = by.others_false }

-- ---- ready again

-- a refuter with the same clauses and the same trail, whose watches fit
pub ready_again : (p : Problem) (clauses : List (List Lit)) (before now : RefuterView) → IsReady p clauses before → before.conflict ≡ None → now.store.added ≡ before.store.added → now.conflict ≡ None
    → now.trail.entries ≡ before.trail.entries → IsWatching p now.store now.trail → IsReady p clauses now
ready_again p clauses before now ready live same still entries w = record {
  ground = ap level entries ∙ ready.ground;
  forced = subst (λ z. AreForced (p.clauses ++ z) now.trail.entries) (sym same) (subst (λ z. AreForced (clauses_of p before.store) z) (sym entries) ready.forced);
  further = ready.further;
  known = ready.known ∙ ap (λ z. z ++ ready.further) (sym same);
  live = λ h. ((ready.live live).0, w);
  closed = λ id h. absurd cc;
}

-- one that assumes nothing
pub settled_raised : (p : Problem) (clauses : List (List Lit)) (r : RefuterView) → IsReady p clauses r → (r.conflict ≡ None → r.trail.taken ≤ length r.trail.entries) → IsRaised p clauses r
settled_raised p clauses r ready taken u un =
    let cut : u.entries ≡ r.trail.entries = un.entries ∙ ground_cut r.trail.entries ready.ground in
    record {
      ground = ap level cut ∙ ready.ground;
      forced = subst (λ z. AreForced (clauses_of p r.store) z) (sym cut) ready.forced;
      further = ready.further;
      known = ready.known;
      live = λ h. ((ready.live h).0, undone (clauses_of p r.store) p.vars r.store.links r.store.examined r.trail u 0 (ready.live h).1 (taken h) un);
      closed = λ id h. subst (λ z. IsConflict (clauses_of p r.store) id (true_lits z)) (sym cut) (ready.closed id h);
    }

-- the entries that are left once denials are undone
denied_cut : (lits : List Lit) (ground entries : List Assigned) → level ground ≡ 0 → Denies lits ground entries → up_to 0 entries ≡ ground
denied_cut lits ground entries h d = elim (denied_level lits ground entries h d) [ inl p ↦ ground_cut entries p.0 ∙ p.1 | inr p ↦ p.1 ]

-- one that has made negations true, and has not propagated
pub denied_raised : (p : Problem) (clauses : List (List Lit)) (r now : RefuterView) (lits : List Lit) → IsSettledToo p clauses r → r.conflict ≡ None → Denies lits r.trail.entries now.trail.entries
    → now ≡ record r { trail = record r.trail { entries = now.trail.entries } } → IsRaised p clauses now
denied_raised p clauses r now lits s live d same =
    let P : RefuterView → Type 0 = λ z. IsRaised p clauses z in
    subst P (sym same) (λ u un.
    ready_again p clauses r (record r { trail = u }) s.ready live refl live (un.entries ∙ denied_cut lits r.trail.entries now.trail.entries s.ready.ground d)
    (undone (clauses_of p r.store) p.vars r.store.links r.store.examined (record r.trail { entries = now.trail.entries }) u 0
    (denied_watching p r.store r.trail lits now.trail.entries d (s.ready.live live).1 (s.settled live))
    (denied_taken p r.store r.trail lits now.trail.entries d (s.settled live)) un))

-- the entries that are left once denials, and what clauses force after them, are undone
propagated_cut : (cs : List (List Lit)) (lits : List Lit) (ground entries after : List Assigned) → level ground ≡ 0 → Denies lits ground entries → 0 < level entries → AddsForced cs entries after → up_to 0 after ≡ ground
propagated_cut cs lits ground entries after h d high forced = added_above cs entries after forced high ∙ denied_cut lits ground entries h d

-- one that has propagated, and come to rest
pub rested_raised : (p : Problem) (clauses : List (List Lit)) (r now : RefuterView) (lits : List Lit) (entries : List Assigned) → IsSettledToo p clauses r → r.conflict ≡ None → Denies lits r.trail.entries entries
    → 0 < level entries → AddsForced (clauses_of p r.store) entries now.trail.entries → now.store.added ≡ r.store.added → now.conflict ≡ r.conflict
    → IsWatching p now.store now.trail → IsSettled p now.store now.trail → IsRaised p clauses now
rested_raised p clauses r now lits entries s live d high forced same still w settled u un =
    let taken = settled.taken in
    ready_again p clauses r (record now { trail = u }) s.ready live same (still ∙ live) (un.entries ∙ propagated_cut (clauses_of p r.store) lits r.trail.entries entries now.trail.entries s.ready.ground d high forced)
    (undone (clauses_of p now.store) p.vars now.store.links now.store.examined now.trail u 0 w (omega arith) un)

-- one that has propagated, and found a clause that is false
pub refuted_raised : (p : Problem) (clauses : List (List Lit)) (r now : RefuterView) (lits : List Lit) (entries : List Assigned) → IsSettledToo p clauses r → r.conflict ≡ None → Denies lits r.trail.entries entries
    → 0 < level entries → AddsForced (clauses_of p r.store) entries now.trail.entries → now.store.added ≡ r.store.added → now.conflict ≡ r.conflict
    → WatchesBelow p now.store now.trail → IsRaised p clauses now
refuted_raised p clauses r now lits entries s live d high forced same still below u un =
    let up = added_level (clauses_of p r.store) entries now.trail.entries forced in
    ready_again p clauses r (record now { trail = u }) s.ready live same (still ∙ live) (un.entries ∙ propagated_cut (clauses_of p r.store) lits r.trail.entries entries now.trail.entries s.ready.ground d high forced)
    (below 0 u (omega arith) un)

-- ---- settling

-- what follows from the clauses alone is forced by them
pub settled_forced : (cs : List (List Lit)) (entries after : List Assigned) → level entries ≡ 0 → AreForced cs entries → AddsForced cs entries after → AreForced cs after
settled_forced cs entries after h f more = derived_forced cs after (added_derived cs [] entries after more (ground_derived cs [] entries h f))

pub settled_by : (p : Problem) (clauses : List (List Lit)) (r now : RefuterView) → IsReady p clauses r → r.conflict ≡ None → now.store.added ≡ r.store.added
    → AddsForced (clauses_of p r.store) r.trail.entries now.trail.entries
    → (now.conflict ≡ None → IsFixpoint (clauses_of p r.store) (true_lits now.trail.entries) × IsWatching p now.store now.trail × IsSettled p now.store now.trail)
    → ((id : ℕ) → now.conflict ≡ Some id → IsConflict (clauses_of p r.store) id (true_lits now.trail.entries))
    → IsSettledToo p clauses now
settled_by p clauses r now ready live same forced rest some = record {
  ready = record {
    ground = added_level (clauses_of p r.store) r.trail.entries now.trail.entries forced ∙ ready.ground;
    forced = subst (λ z. AreForced (p.clauses ++ z) now.trail.entries) (sym same) (settled_forced (clauses_of p r.store) r.trail.entries now.trail.entries ready.ground ready.forced forced);
    further = ready.further;
    known = ready.known ∙ ap (λ z. z ++ ready.further) (sym same);
    live = λ h. ((ready.live live).0, (rest h).1);
    closed = λ id h. subst (λ z. IsConflict (p.clauses ++ z) id (true_lits now.trail.entries)) (sym same) (some id h);
  };
  settled = λ h. (rest h).2;
  fixpoint = λ h. subst (λ z. IsFixpoint z (true_lits now.trail.entries)) (all_added p clauses r ready live) (rest h).0;
}

pub settled_closed : (p : Problem) (clauses : List (List Lit)) (r : RefuterView) → IsReady p clauses r → (r.conflict ≡ None → ⊥) → IsSettledToo p clauses r
settled_closed p clauses r ready closed = record { ready = ready; settled = λ h. absurd (closed h); fixpoint = λ h. absurd (closed h) }

-- ---- outcomes

ground_derives : (p : Problem) (clauses : List (List Lit)) (r : RefuterView) (lits : List Lit) → IsReady p clauses r → AreDerived (clauses_of p r.store) lits r.trail.entries
ground_derives p clauses r lits ready = ground_derived (clauses_of p r.store) lits r.trail.entries ready.ground ready.forced

-- a clause is false by the clauses alone
pub outcome_closed : (p : Problem) (clauses : List (List Lit)) (r : RefuterView) (lits : List Lit) (id : ClauseId) → IsSettledToo p clauses r → r.conflict ≡ Some id.0 → HasOutcome p clauses lits r (Conflict id)
outcome_closed p clauses r lits id s closed =
    let false = s.ready.closed id.0 closed in
    (false, reached_by_all p clauses r (map negated lits) s.ready (conflict_reached (clauses_of p r.store) lits r.trail.entries id.0 (ground_derives p clauses r lits s.ready) false))

-- a literal is true by the clauses alone
pub outcome_satisfied : (p : Problem) (clauses : List (List Lit)) (r : RefuterView) (lits : List Lit) (entries : List Assigned) (l : Lit) → IsSettledToo p clauses r → CanBeRefuted p lits → Denies lits r.trail.entries entries
    → Contains lits l → Contains (true_lits entries) l → ReachesConflict (p.clauses ++ clauses) (map negated lits)
outcome_satisfied p clauses r lits entries l s can d listed there =
    reached_by_all p clauses r (map negated lits) s.ready
    (satisfied_reached (clauses_of p r.store) lits entries l can.rising (denied_derived (clauses_of p r.store) lits r.trail.entries entries d (ground_derives p clauses r lits s.ready)) listed there)

-- what the trail derives once negations were made true and propagated
pub derives_after : (p : Problem) (clauses : List (List Lit)) (r : RefuterView) (lits : List Lit) (entries after : List Assigned) → IsReady p clauses r → Denies lits r.trail.entries entries → AddsForced (clauses_of p r.store) entries after
    → AreDerived (clauses_of p r.store) lits after
derives_after p clauses r lits entries after ready d forced =
    added_derived (clauses_of p r.store) lits entries after forced (denied_derived (clauses_of p r.store) lits r.trail.entries entries d (ground_derives p clauses r lits ready))

-- a clause is false where the denied one is
pub outcome_conflict : (p : Problem) (clauses : List (List Lit)) (r : RefuterView) (lits : List Lit) (entries after : List Assigned) (id : ℕ) → IsSettledToo p clauses r → Denies lits r.trail.entries entries
    → AddsForced (clauses_of p r.store) entries after → IsConflict (clauses_of p r.store) id (true_lits after) → ReachesConflict (p.clauses ++ clauses) (map negated lits)
outcome_conflict p clauses r lits entries after id s d forced false =
    reached_by_all p clauses r (map negated lits) s.ready (conflict_reached (clauses_of p r.store) lits after id (derives_after p clauses r lits entries after s.ready d forced) false)

-- propagation came to rest
pub outcome_rest : (p : Problem) (clauses : List (List Lit)) (r : RefuterView) (lits : List Lit) (entries after : List Assigned) → IsSettledToo p clauses r → r.conflict ≡ None
    → AddsForced (clauses_of p r.store) entries after → All (λ l. Contains (true_lits entries) (negated l)) lits → IsFixpoint (clauses_of p r.store) (true_lits after) → IsRest (p.clauses ++ clauses) lits (true_lits after)
outcome_rest p clauses r lits entries after s live forced all fix = record {
  negations = λ l c. added_within (clauses_of p r.store) entries after (negated l) forced (All-contains (λ l. Contains (true_lits entries) (negated l)) lits l all c);
  fixpoint = subst (λ z. IsFixpoint z (true_lits after)) (all_added p clauses r s.ready live) fix;
}

-- ---- one clause more

pub ready_more : (p : Problem) (clauses : List (List Lit)) (r now : RefuterView) (lits : List Lit) → IsReady p clauses r → r.conflict ≡ None → now.store.added ≡ r.store.added ++ lits ∷ [] → now.trail ≡ r.trail → now.conflict ≡ None
    → IsWatching p now.store now.trail → IsReady p (clauses ++ lits ∷ []) now
ready_more p clauses r now lits ready live more same still w =
    let nothing : ready.further ≡ [] = (ready.live live).0 in
    let was : clauses ≡ r.store.added = ready.known ∙ (ap (λ z. r.store.added ++ z) nothing ∙ append-nil r.store.added) in
    let longer : p.clauses ++ now.store.added ≡ clauses_of p r.store ++ lits ∷ [] = ap (λ z. p.clauses ++ z) more ∙ sym (append_assoc p.clauses r.store.added (lits ∷ [])) in
    let entries : now.trail.entries ≡ r.trail.entries = ap (λ (z : TrailView). z.entries) same in
    record {
      ground = ap level entries ∙ ready.ground;
      forced = subst (λ z. AreForced z now.trail.entries) (sym longer) (subst (λ z. AreForced (clauses_of p r.store ++ lits ∷ []) z) (sym entries) (forced_more (clauses_of p r.store) (lits ∷ []) r.trail.entries ready.forced));
      further = [];
      known = ap (λ z. z ++ lits ∷ []) was ∙ (sym more ∙ sym (append-nil now.store.added));
      live = λ h. (refl, w);
      closed = λ id h. absurd cc;
    }

-- once a clause is false, further ones are not looked at
pub ready_closed : (p : Problem) (clauses : List (List Lit)) (r : RefuterView) (lits : List Lit) → IsReady p clauses r → (r.conflict ≡ None → ⊥) → IsReady p (clauses ++ lits ∷ []) r
ready_closed p clauses r lits ready closed = record {
  ground = ready.ground;
  forced = ready.forced;
  further = ready.further ++ lits ∷ [];
  known = ap (λ z. z ++ lits ∷ []) ready.known ∙ append_assoc r.store.added ready.further (lits ∷ []);
  live = λ h. absurd (closed h);
  closed = ready.closed;
}

-- a new refuter
pub ready_new : (p : Problem) (r : RefuterView) → r.store.added ≡ [] → r.trail.entries ≡ [] → r.conflict ≡ None → IsWatching p r.store r.trail → IsReady p [] r
ready_new p r none empty live w = record {
  ground = ap level empty;
  forced = λ i id l e. absurd (get_nothing i (Forced l id) (subst (λ z. slice_get z i ≡ Some (Forced l id)) empty e));
  further = [];
  known = sym (append-nil r.store.added ∙ none);
  live = λ h. (refl, w);
  closed = λ id h. absurd cc;
}

pub outcome_some : (p : Problem) (clauses : List (List Lit)) (r now : RefuterView) (lits : List Lit) (entries : List Assigned) (id : ClauseId) → IsSettledToo p clauses r → Denies lits r.trail.entries entries
    → AddsForced (clauses_of p r.store) entries now.trail.entries → now.store.added ≡ r.store.added → IsConflict (clauses_of p r.store) id.0 (true_lits now.trail.entries) → HasOutcome p clauses lits now (Conflict id)
outcome_some p clauses r now lits entries id s d forced same false =
    (subst (λ z. IsConflict (p.clauses ++ z) id.0 (true_lits now.trail.entries)) (sym same) false, outcome_conflict p clauses r lits entries now.trail.entries id.0 s d forced false)
