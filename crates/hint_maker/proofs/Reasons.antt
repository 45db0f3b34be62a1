-- Reasons on a derived trail, and the ends of chains.
use Rattle.std.proofs.Common.{◌≡◌, inl, inr, ℕ, suc, zero, Bool, true, List, [], ◌∷◌, ◌++◌, length, map, take, Some, refl, sym, subst, ap, ◌∙◌, append_assoc, arith}
use Rattle.std.specs.Prelude.{Contains, slice_get}
use Rattle.std.specs.List.Sorted.{IsStrictlyIncreasing}
use Rattle.std.proofs.lemmas.Bool.{eq-eqb, ne_eqb}
use Rattle.std.proofs.lemmas.List.{take_all}
use Rattle.std.proofs.lemmas.Option.{slice_get_within}
use Rattle.dg_base.proofs.Lists.{get_append_left, get_from_map, get_map, get_nothing}
use Rattle.dg_base.specs.declared.Lit.{Lit}
use Rattle.cnf_problem.specs.Literals.{negated, var}
use Rattle.cnf_problem.specs.declared.problem.Problem.{Problem}
use Rattle.lemma_log.specs.declared.hints.Hint.{Hint}
use Rattle.log_checker.specs.Hints.{named}
use Rattle.trail_state.specs.declared.reasons.ClauseId.{ClauseId}
use Rattle.trail_state.specs.Forcing.{Forces, IsConflict}
use Rattle.trail_state.specs.Trails.{Assigned, Forced, IsWell, TrailView, lit_of, reason, reason_of, true_lits}
use Rattle.unit_refuter.specs.Refuting.{AreDerived}
use Rattle.unit_refuter.proofs.Chaining.{rising_apart}
use Rattle.hint_maker.specs.Walking.{AreMarked, IsEnd, IsFirstTrue, is_marked}
use Rattle.hint_maker.proofs.Fronts.{front_last}

-- a literal that a clause forced, at its place
pub record IsForcedAt (clauses : List (List Lit)) (entries : List Assigned) (i : ℕ) (l : Lit) : Type 0 where
  pub id : ℕ
  pub there : slice_get entries i ≡ Some (Forced l id)
  pub forces : Forces clauses id (true_lits (take i entries)) l

forced_at : (clauses : List (List Lit)) (entries : List Assigned) (i : ℕ) (a : Assigned) (l : Lit) (id : ℕ) → slice_get entries i ≡ Some a → lit_of a ≡ l → a ≡ Forced (lit_of a) id → Forces clauses id (true_lits (take i entries)) (lit_of a)
    → IsForcedAt clauses entries i l
forced_at clauses entries i a l id at same is forces = record {
  id = id;
  there = at ∙ ap (λ x. Some x) (is ∙ ap (λ x. Forced x id) same);
  forces = subst (λ x. Forces clauses id (true_lits (take i entries)) x) same forces;
}

-- a literal of the trail whose negation is none of the lemma's was forced
pub other_forced : (clauses : List (List Lit)) (lits : List Lit) (entries : List Assigned) (i : ℕ) (l : Lit) → AreDerived clauses lits entries → slice_get (true_lits entries) i ≡ Some l → ¬ Contains lits (negated l)
    → IsForcedAt clauses entries i l
other_forced clauses lits entries i l derived at other =
    let b = get_from_map lit_of entries i l at in
    elim (derived i b.0 b.1) [
      | inl c ↦ absurd (other (subst (λ x. Contains lits (negated x)) b.2 c))
      | inr f ↦ forced_at clauses entries i b.0 l f.0 b.1 b.2 f.1 f.2
    ]

-- so was a literal of the lemma
pub own_forced : (clauses : List (List Lit)) (lits : List Lit) (entries : List Assigned) (i : ℕ) (l : Lit) → IsStrictlyIncreasing (map var lits) → AreDerived clauses lits entries → slice_get (true_lits entries) i ≡ Some l → Contains lits l
    → IsForcedAt clauses entries i l
own_forced clauses lits entries i l rising derived at listed = other_forced clauses lits entries i l derived at (rising_apart lits l rising listed)

-- the reason of the variable at a place
reason_within : (es : List Assigned) (k : ℕ) (a : Assigned) → ((i j : ℕ) (x y : Lit) → slice_get (true_lits es) i ≡ Some x → slice_get (true_lits es) j ≡ Some y → var x ≡ var y → i ≡ j) → slice_get es k ≡ Some a
    → reason_of (var (lit_of a)) es ≡ reason a
reason_within [] k a once e = absurd (get_nothing k a e)
reason_within (x ∷ es) zero a once e =
    let f : x ≡ a = cc in
    let t = eq-eqb (var (lit_of x)) (var (lit_of a)) (ap (λ z. var (lit_of z)) f) in
    rw t (ap reason f)
reason_within (x ∷ es) (suc k) a once e =
    let apart : var (lit_of x) ≡ var (lit_of a) → ⊥ = λ same. let no : 0 ≡ suc k = once 0 (suc k) (lit_of x) (lit_of a) refl (get_map lit_of es k a e) same in omega arith in
    let t = ne_eqb (var (lit_of x)) (var (lit_of a)) apart in
    rw t (reason_within es k a (λ i j y z p q same. let one : suc i ≡ suc j = once (suc i) (suc j) y z p q same in omega arith) e)

pub reason_there : (t : TrailView) (i : ℕ) (l : Lit) (id : ℕ) → IsWell t → slice_get t.entries i ≡ Some (Forced l id) → reason_of (var l) t.entries ≡ Some id
reason_there t i l id well at = reason_within t.entries i (Forced l id) well.once at

-- ---- ends

pub end_at_own : (clauses : List (List Lit)) (lits : List Lit) (entries : List Assigned) (i : ℕ) (first : IsFirstTrue lits entries i) (f : IsForcedAt clauses entries i first.literal) (clause : ClauseId) → clause.0 ≡ f.id
    → IsEnd clauses lits entries (record { clause = clause; before = i })
end_at_own clauses lits entries i first f clause same = record {
  within = let w = slice_get_within entries i (Forced first.literal f.id) f.there in omega arith;
  clause = f.forces.clause;
  named = ap (λ k. slice_get clauses k) same ∙ f.forces.named;
  apart = first.apart;
  false = λ m c. elim (f.forces.others_false m c) [
    | inl own ↦ inl (subst (λ x. Contains lits x) (sym own) first.listed)
    | inr gone ↦ inr gone
  ];
}

pub end_at_conflict : (clauses : List (List Lit)) (lits : List Lit) (entries : List Assigned) (clause : ClauseId) (whole : ℕ) → whole ≡ length entries → ((l : Lit) → Contains (true_lits entries) l → ¬ Contains lits l)
    → IsConflict clauses clause.0 (true_lits entries) → IsEnd clauses lits entries (record { clause = clause; before = whole })
end_at_conflict clauses lits entries clause whole same apart conflict =
    let all = sym (take_all whole entries (omega (arith, same))) in
    record {
      within = omega (arith, same);
      clause = conflict.clause;
      named = conflict.named;
      apart = λ l c. apart l (subst (λ z. Contains (true_lits z) l) (sym all) c);
      false = λ m c. inr (subst (λ z. Contains (true_lits z) (negated m)) all (conflict.conflict m c));
    }

-- ---- steps back

-- a marked literal was forced
pub marked_forced : (clauses : List (List Lit)) (lits : List Lit) (entries : List Assigned) (marks : List Bool) (i : ℕ) (l : Lit) → AreDerived clauses lits entries → slice_get (true_lits entries) i ≡ Some l → AreMarked lits entries marks (suc i)
    → is_marked marks (var l) ≡ true → IsForcedAt clauses entries i l
marked_forced clauses lits entries marks i l derived at marked here =
    let b = get_from_map lit_of entries i l at in
    let last = subst (λ x. Contains (true_lits (take (suc i) entries)) x) b.2 (front_last entries i b.0 b.1) in
    other_forced clauses lits entries i l derived at (marked.other l last here)

-- a hint names its clause behind further ones too
pub named_further : (p : Problem) (added further : List (List Lit)) (h : Hint) (id : ℕ) (clause : List Lit) → ((before : List (List Lit)) → named p before h ≡ slice_get (p.clauses ++ before) id) → slice_get (p.clauses ++ added) id ≡ Some clause
    → named p (added ++ further) h ≡ Some clause
named_further p added further h id clause names at =
    names (added ++ further) ∙ (ap (λ z. slice_get z id) (sym (append_assoc p.clauses added further)) ∙ get_append_left (p.clauses ++ added) further id clause at)

-- a reason that was read is that of the place
pub reason_is : (clauses : List (List Lit)) (t u : TrailView) (i : ℕ) (l : Lit) (f : IsForcedAt clauses t.entries i l) (id : ℕ) → IsWell t → u ≡ t → Some id ≡ reason_of (var l) u.entries → id ≡ f.id
reason_is clauses t u i l f id well same is =
    let both : Some id ≡ Some f.id = is ∙ (ap (λ (z : TrailView). reason_of (var l) z.entries) same ∙ reason_there t i l f.id well f.there) in
    cc
