-- The marked literals, collected from the trail's end.
use Rattle.std.proofs.Common.{◌≡◌, ℕ, suc, ◌<◌, ◌≤◌, ◌⊎◌, inl, inr, Bool, true, false, List, [], ◌∷◌, ◌++◌, length, refl, ap, sym, ◌∙◌, subst, arith}
use Rattle.std.specs.Prelude.{Contains, slice_get, Some}
use Rattle.std.proofs.lemmas.Bool.{cases_eq, false≢true}
use Rattle.std.proofs.lemmas.List.{length-map}
use Rattle.std.proofs.lemmas.List.Elements.{Contains-push_cases, Contains-append_left, Contains-append_right}
use Rattle.std.proofs.lemmas.Option.{slice_get_within}
use Rattle.dg_base.proofs.Lists.{place_of, contains_place, get_push_cases, contains_head, contains_nothing}
use Rattle.dg_base.specs.declared.Lit.{Lit}
use Rattle.cnf_problem.specs.Literals.{var, negated}
use Rattle.cnf_problem.proofs.LiteralLaws.{var-negated, negated-negated}
use Rattle.trail_state.specs.Trails.{Assigned, lit_of, true_lits, level, level_of}
use Rattle.conflict_learn.specs.Marking.{is_marked, IsCollected}
use Rattle.conflict_learn.proofs.Levels.{Once}
use Rattle.conflict_learn.proofs.Marks.{marked_negated}

-- the marked literals from this place on, and the greatest of their levels but the last one, or 0
pub record CollectedFrom (es : List Assigned) (marks : List Bool) (n : ℕ) (lits : List Lit) (back : ℕ) : Type 0 where
  pub marked : (l : Lit) → Contains lits l → (k : ℕ) × (n ≤ k) × (slice_get (true_lits es) k ≡ Some (negated l)) × (is_marked marks l ≡ true)
  pub all : (k : ℕ) (l : Lit) → n ≤ k → slice_get (true_lits es) k ≡ Some l → is_marked marks l ≡ true → Contains lits (negated l)
  pub lower : back < level es
  pub bound : (l : Lit) → Contains lits l → (level_of (var l) es ≤ back) ⊎ (level_of (var l) es ≡ level es)
  pub reached : (back ≡ 0) ⊎ ((l : Lit) × Contains lits l × (level_of (var l) es ≡ back))
  pub once : Once lits

-- from the trail's end on there are none
pub collected_none : (es : List Assigned) (marks : List Bool) (n : ℕ) → n ≡ length es → 0 < level es → CollectedFrom es marks n [] 0
collected_none es marks n e above = record {
  marked = λ l c. absurd (contains_nothing l c);
  all = λ k l le p m. absurd (let r = slice_get_within (true_lits es) k l p in let s = length-map es lit_of in omega arith);
  lower = above;
  bound = λ l c. absurd (contains_nothing l c);
  reached = inl refl;
  once = record { once = λ i j a b p q v. absurd (cc) };
}

-- from its beginning on they are all
pub collected_all : (es : List Assigned) (marks : List Bool) (n : ℕ) (lits : List Lit) (back : ℕ) → n ≡ 0 → CollectedFrom es marks n lits back → IsCollected es marks lits back
collected_all es marks n lits back e h = record {
  marked = λ l c. let r = h.marked l c in (contains_place (true_lits es) r.0 (negated l) r.2, r.3);
  all = λ l c m. let p = place_of (true_lits es) l c in h.all p.0 l (omega arith) p.1 m;
  lower = h.lower;
  bound = h.bound;
  reached = h.reached;
  no_repeats = h.once.once;
}

-- a literal at a place that is known
same_place : (es : List Assigned) (k n : ℕ) (l m : Lit) → k ≡ n → slice_get (true_lits es) k ≡ Some m → slice_get (true_lits es) n ≡ Some l → m ≡ l
same_place es k n l m e q p = let at : slice_get (true_lits es) n ≡ Some m = subst (λ j. slice_get (true_lits es) j ≡ Some m) e q in cc

-- one literal further, where it is not marked
pub collected_other : (es : List Assigned) (marks : List Bool) (i n : ℕ) (l : Lit) (lits : List Lit) (back : ℕ) → suc n ≡ i → slice_get (true_lits es) n ≡ Some l → is_marked marks l ≡ false → CollectedFrom es marks i lits back → CollectedFrom es marks n lits back
collected_other es marks i n l lits back e p f h = record {
  marked = λ m c. let r = h.marked m c in (r.0, omega arith, r.2, r.3);
  all = λ k m le q marked. elim (cases_eq k n) [
    | inl same ↦ absurd (false≢true (sym f ∙ sym (ap (is_marked marks) (same_place es k n l m same q p)) ∙ marked))
    | inr o ↦ h.all k m (omega arith) q marked
  ];
  lower = h.lower;
  bound = h.bound;
  reached = h.reached;
  once = h.once;
}

-- one more literal, of a variable that the others don't have
once_push : (xs : List Lit) (x : Lit) → Once xs → ((y : Lit) → Contains xs y → var y ≡ var x → ⊥) → Once (xs ++ x ∷ [])
once_push xs x h new = record {
  once = λ i j a b p q e. elim (get_push_cases xs x i a p) [
    | inl pa ↦ elim (get_push_cases xs x j b q) [
      | inl pb ↦ h.once i j a b pa pb e
      | inr last ↦ absurd (new a (contains_place xs i a pa) (e ∙ ap var last.1))
    ]
    | inr first ↦ elim (get_push_cases xs x j b q) [
      | inl pb ↦ absurd (new b (contains_place xs j b pb) (sym e ∙ ap var first.1))
      | inr last ↦ omega (arith, first.0, last.0)
    ]
  ];
}

-- one literal further, where it is marked
pub collected_more : (es : List Assigned) (marks : List Bool) (i n : ℕ) (l : Lit) (lits : List Lit) (back more : ℕ) → suc n ≡ i → slice_get (true_lits es) n ≡ Some l → is_marked marks l ≡ true
    → Once (true_lits es) → more < level es → back ≤ more → (level_of (var l) es ≤ more) ⊎ (level_of (var l) es ≡ level es) → (more ≡ back) ⊎ (level_of (var l) es ≡ more)
    → CollectedFrom es marks i lits back → CollectedFrom es marks n (lits ++ negated l ∷ []) more
collected_more es marks i n l lits back more e p marked single low le bound reached h = record {
  marked = λ m c. elim (Contains-push_cases lits (negated l) m c) [
    | inl old ↦ (let r = h.marked m old in (r.0, omega arith, r.2, r.3))
    | inr same ↦ (n, omega arith, p ∙ ap Some (sym (negated-negated l)) ∙ ap (λ x. Some (negated x)) same, sym (ap (is_marked marks) same) ∙ marked_negated marks l ∙ marked)
  ];
  all = λ k m at q is. elim (cases_eq k n) [
    | inl same ↦ subst (λ x. Contains (lits ++ negated l ∷ []) (negated x)) (sym (same_place es k n l m same q p)) new
    | inr o ↦ Contains-append_left lits (negated l ∷ []) (negated m) (h.all k m (omega arith) q is)
  ];
  lower = low;
  bound = λ m c. elim (Contains-push_cases lits (negated l) m c) [
    | inl old ↦ elim (h.bound m old) [ inl b ↦ inl (omega arith) | inr top ↦ inr top ]
    | inr same ↦ subst (λ x. (level_of (var x) es ≤ more) ⊎ (level_of (var x) es ≡ level es)) same (subst (λ v. (level_of v es ≤ more) ⊎ (level_of v es ≡ level es)) (sym (var-negated l)) bound)
  ];
  reached = elim reached [
    | inl same ↦ elim h.reached [
      | inl none ↦ inl (same ∙ none)
      | inr (m, c, at) ↦ inr (m, Contains-append_left lits (negated l ∷ []) m c, at ∙ sym same)
    ]
    | inr here ↦ inr (negated l, new, ap (λ v. level_of v es) (var-negated l) ∙ here)
  ];
  once = once_push lits (negated l) h.once (λ m c v.
      let r = h.marked m c in
      let s = single.once r.0 n (negated m) l r.2 p (var-negated m ∙ v ∙ var-negated l) in
      omega arith);
}
  where
    new : Contains (lits ++ negated l ∷ []) (negated l)
    new = Contains-append_right lits (negated l ∷ []) (negated l) (contains_head (negated l) [])
