-- Resolution with the reasons of a trail, from its end.
use Rattle.std.proofs.Common.{◌≡◌, ℕ, zero, suc, ◌<◌, ◌⊎◌, inl, inr, Bool, true, List, [], ◌∷◌, ◌++◌, map, take, refl, ap, sym, ◌∙◌, subst, arith}
use Rattle.std.specs.Prelude.{Contains, slice_get, Some, option_and_then}
use Rattle.std.proofs.lemmas.Bool.{cases_eq}
use Rattle.std.proofs.lemmas.List.Elements.{Contains-append_left, Contains-append_right, Contains-append_cases}
use Rattle.dg_base.proofs.Lists.{contains_place, get_map, contains_from_filter, contains_head, contains_tail, contains_nothing}
use Rattle.dg_base.specs.declared.Lit.{Lit}
use Rattle.cnf_problem.specs.Literals.{var, negated}
use Rattle.cnf_problem.specs.Chains.{IsFalse, AllFalse, OthersFalse, ReachesConflict, step, done}
use Rattle.cnf_problem.specs.Laws.{IsWithin}
use Rattle.cnf_problem.proofs.ChainLaws.{conflict_more, contains_filter}
use Rattle.cnf_problem.proofs.LiteralLaws.{var-negated}
use Rattle.trail_state.specs.Trails.{Assigned, Decided, Forced, lit_of, reason, true_lits, level_of, up_to}
use Rattle.trail_state.specs.Forcing.{Forces, AreForced, reasons}
use Rattle.conflict_learn.specs.Marking.{is_marked, marked_lits, AddsMarks, MarksFollow, StillFollow}
use Rattle.conflict_learn.proofs.Places.{place_in_front, in_filter_map}
use Rattle.conflict_learn.proofs.Levels.{Once, once_same, in_up_to}
use Rattle.conflict_learn.proofs.Marks.{marked_negated}

-- resolution, by what is true: a literal is not needed where a clause forces it
pub without_forced : (cs : List (List Lit)) (old new clause : List Lit) (l : Lit) → Contains cs clause → Contains clause l → OthersFalse new clause l → IsWithin old (l ∷ new) → ReachesConflict cs old → ReachesConflict cs new
without_forced cs old new clause l listed member others_false within h =
    let q = conflict_more cs cs old (l ∷ new) (λ x c. c) within h in
    record { reached = q.reached; chain = step clause l listed member others_false q.chain; clause = q.clause; listed = q.listed; conflict = q.conflict }

-- the reason at a place of the trail is among the reasons
pub reason_listed : (clauses : List (List Lit)) (es : List Assigned) (conflict clause : List Lit) (k id : ℕ) (l : Lit) → slice_get es k ≡ Some (Forced l id) → slice_get clauses id ≡ Some clause → Contains (conflict ∷ reasons clauses es) clause
reason_listed clauses es conflict clause k id l e named =
    contains_tail conflict clause (reasons clauses es)
    (in_filter_map (λ a. option_and_then (λ id. slice_get clauses id) (reason a)) es k (Forced l id) clause e named)

-- the first element, by another name
contains_first : {X : Type 0} (x y : X) (xs : List X) → x ≡ y → Contains (y ∷ xs) x
contains_first x y xs e = subst (λ z. Contains (z ∷ xs) x) e (contains_head x xs)

-- a true literal that is marked or of level 0 is among those that the resolvent starts from
pub in_start : (es : List Assigned) (marks : List Bool) (x : Lit) → Once (true_lits es) → Contains (true_lits es) x → (is_marked marks x ≡ true) ⊎ (level_of (var x) es ≡ 0) → Contains (marked_lits marks es ++ true_lits (up_to 0 es)) x
in_start es marks x h c (inl m) = Contains-append_left (marked_lits marks es) (true_lits (up_to 0 es)) x (contains_filter (is_marked marks) (true_lits es) x c m)
in_start es marks x h c (inr z) = Contains-append_right (marked_lits marks es) (true_lits (up_to 0 es)) x (in_up_to 0 es x h c (omega arith))

-- and so is the negation of a false literal
pub false_in_start : (es : List Assigned) (marks : List Bool) (m : Lit) → Once (true_lits es) → IsFalse (true_lits es) m → (is_marked marks m ≡ true) ⊎ (level_of (var m) es ≡ 0) → Contains (marked_lits marks es ++ true_lits (up_to 0 es)) (negated m)
false_in_start es marks m h c (inl e) = in_start es marks (negated m) h c (inl (marked_negated marks m ∙ e))
false_in_start es marks m h c (inr z) = in_start es marks (negated m) h c (inr (ap (λ v. level_of v es) (var-negated m) ∙ z))

-- the conflict itself follows
pub conflict_follows : (clauses : List (List Lit)) (es : List Assigned) (conflict : List Lit) (before after : List Bool) → Once (true_lits es) → AllFalse (true_lits es) conflict → AddsMarks es before after conflict → MarksFollow clauses es conflict after
conflict_follows clauses es conflict before after h refuted adds = record {
  reached = marked_lits after es ++ true_lits (up_to 0 es);
  chain = done;
  clause = conflict;
  listed = contains_head conflict (reasons clauses es);
  conflict = λ m c. false_in_start es after m h (refuted m c) (adds.all m c);
}

-- the resolvent with the reason of a literal follows
pub resolvent_follows : (clauses : List (List Lit)) (es : List Assigned) (clause : List Lit) (before added after : List Bool) (k id : ℕ) (l : Lit)
    → Once (true_lits es) → AreForced clauses es → slice_get es k ≡ Some (Forced l id) → slice_get clauses id ≡ Some clause
    → AddsMarks es before added clause → ((m : Lit) → (var m ≡ var l → ⊥) → is_marked after m ≡ is_marked added m) → StillFollow clauses es before after
resolvent_follows clauses es clause before added after k id l h forced e named adds kept conflict follows =
    let here = get_map lit_of es k (Forced l id) e in
    let f = forced k id l e in
    let n = f.named in
    let same : f.clause ≡ clause = cc in
    without_forced (conflict ∷ reasons clauses es) (marked_lits before es ++ true_lits (up_to 0 es)) (marked_lits after es ++ true_lits (up_to 0 es)) clause l
    (reason_listed clauses es conflict clause k id l e named) (subst (λ c. Contains c l) same f.has)
    (λ m c. elim (f.others_false m (subst (λ x. Contains x m) (sym same) c)) [
      | inl q ↦ inl q
      | inr front ↦
          let p = place_in_front lit_of es k (negated m) front in
          let apart : var m ≡ var l → ⊥ = λ w. (let r = h.once p.0 k (negated m) l p.2 here (var-negated m ∙ w) in omega arith) in
          inr (false_in_start es after m h (contains_place (true_lits es) p.0 (negated m) p.2) (other m apart (adds.all m c)))
    ])
    (λ x c. elim (Contains-append_cases (marked_lits before es) (true_lits (up_to 0 es)) x c) [
      | inr ground ↦ contains_tail l x (marked_lits after es ++ true_lits (up_to 0 es)) (Contains-append_right (marked_lits after es) (true_lits (up_to 0 es)) x ground)
      | inl marked ↦
          let r = contains_from_filter (is_marked before) (true_lits es) x marked in
          elim (cases_eq (var x) (var l)) [
            | inl w ↦ contains_first x l (marked_lits after es ++ true_lits (up_to 0 es)) (once_same (true_lits es) x l h r.0 (contains_place (true_lits es) k l here) w)
            | inr n ↦ contains_tail l x (marked_lits after es ++ true_lits (up_to 0 es)) (in_start es after x h r.0 (other x n (inl (adds.stay x r.1))))
          ]
    ])
    follows
  where
    other : (m : Lit) → (var m ≡ var l → ⊥) → (is_marked added m ≡ true) ⊎ (level_of (var m) es ≡ 0) → (is_marked after m ≡ true) ⊎ (level_of (var m) es ≡ 0)
    other m n (inl t) = inl (kept m n ∙ t)
    other m n (inr z) = inr z

-- the entries of level 0 are the first so many, each with a reason
pub ground_entries : (es : List Assigned) → (n : ℕ) × (up_to 0 es ≡ take n es) × ((k : ℕ) → k < n → (l : Lit) × (id : ℕ) × (slice_get es k ≡ Some (Forced l id)))
ground_entries [] = (0, refl, λ k lt. absurd (omega arith))
ground_entries (Decided l ∷ es) = (0, refl, λ k lt. absurd (omega arith))
ground_entries (Forced l id ∷ es) =
    let r = ground_entries es in
    (suc r.0, ap (λ z. Forced l id ∷ z) r.1, cases r.0 r.2)
  where
    cases : (n : ℕ) → ((k : ℕ) → k < n → (l : Lit) × (id : ℕ) × (slice_get es k ≡ Some (Forced l id))) → (k : ℕ) → k < suc n → (m : Lit) × (i : ℕ) × (slice_get (Forced l id ∷ es) k ≡ Some (Forced m i))
    cases n later zero lt = (l, id, refl)
    cases n later (suc k) lt = later k (omega arith)

-- what stands before a place is in the part up to it
pub in_front : {X Y : Type 0} (f : X → Y) (xs : List X) (n k : ℕ) (y : Y) → slice_get (map f xs) k ≡ Some y → k < n → Contains (map f (take n xs)) y
in_front f [] n k y e lt = absurd (cc)
in_front f (x ∷ xs) zero k y e lt = absurd (omega arith)
in_front f (x ∷ xs) (suc n) zero y e lt = let s : f x ≡ y = cc in subst (λ z. Contains (f x ∷ map f (take n xs)) z) s (contains_head (f x) (map f (take n xs)))
in_front f (x ∷ xs) (suc n) (suc k) y e lt = contains_tail (f x) y (map f (take n xs)) (in_front f xs n k y e (omega arith))

-- what an entry makes true follows from its reason
without_entry : (clauses : List (List Lit)) (es : List Assigned) (conflict start : List Lit) (n id : ℕ) (l : Lit)
    → slice_get es n ≡ Some (Forced l id) → Forces clauses id (true_lits (take n es)) l
    → ReachesConflict (conflict ∷ reasons clauses es) (start ++ true_lits (take (suc n) es)) → ReachesConflict (conflict ∷ reasons clauses es) (start ++ true_lits (take n es))
without_entry clauses es conflict start n id l e f follows =
    without_forced (conflict ∷ reasons clauses es) (start ++ true_lits (take (suc n) es)) (start ++ true_lits (take n es)) f.clause l
    (reason_listed clauses es conflict f.clause n id l e f.named) f.has
    (λ m c. elim (f.others_false m c) [ inl q ↦ inl q | inr front ↦ inr (Contains-append_right start (true_lits (take n es)) (negated m) front) ])
    (λ x c. elim (Contains-append_cases start (true_lits (take (suc n) es)) x c) [
      | inl m ↦ contains_tail l x (start ++ true_lits (take n es)) (Contains-append_left start (true_lits (take n es)) x m)
      | inr front ↦
          let p = place_in_front lit_of es (suc n) x front in
          elim (cases_eq p.0 n) [
            | inl w ↦
                let at : slice_get (true_lits es) n ≡ Some x = subst (λ k. slice_get (true_lits es) k ≡ Some x) w p.2 in
                let here = get_map lit_of es n (Forced l id) e in
                let s : x ≡ l = cc in
                contains_first x l (start ++ true_lits (take n es)) s
            | inr o ↦ contains_tail l x (start ++ true_lits (take n es)) (Contains-append_right start (true_lits (take n es)) x (in_front lit_of es n p.0 x p.2 (omega arith)))
          ]
    ])
    follows

-- what the first entries make true follows from their reasons
pub without_front : (clauses : List (List Lit)) (es : List Assigned) (conflict start : List Lit) (n : ℕ)
    → AreForced clauses es → ((k : ℕ) → k < n → (l : Lit) × (id : ℕ) × (slice_get es k ≡ Some (Forced l id)))
    → ReachesConflict (conflict ∷ reasons clauses es) (start ++ true_lits (take n es)) → ReachesConflict (conflict ∷ reasons clauses es) start
without_front clauses es conflict start zero forced have follows =
    conflict_more (conflict ∷ reasons clauses es) (conflict ∷ reasons clauses es) (start ++ []) start (λ x c. c)
    (λ x c. elim (Contains-append_cases start [] x c) [ inl m ↦ m | inr m ↦ absurd (contains_nothing x m) ]) follows
without_front clauses es conflict start (suc n) forced have follows =
    let entry = have n (omega arith) in
    without_front clauses es conflict start n forced (λ k lt. have k (omega arith))
    (without_entry clauses es conflict start n entry.1 entry.0 entry.2 (forced n entry.1 entry.0 entry.2) follows)

-- so the literals of level 0 are not needed
pub without_ground : (clauses : List (List Lit)) (es : List Assigned) (conflict : List Lit) (marks : List Bool) → AreForced clauses es → MarksFollow clauses es conflict marks → ReachesConflict (conflict ∷ reasons clauses es) (marked_lits marks es)
without_ground clauses es conflict marks forced follows =
    let r = ground_entries es in
    without_front clauses es conflict (marked_lits marks es) r.0 forced r.2 (rw r.1 at follows)
