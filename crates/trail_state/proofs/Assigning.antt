-- What is assigned on a trail, with which value, level and reason, and what one more entry changes.
use Rattle.std.proofs.Common.{◌≡◌, ◌≢◌, ℕ, ◌+◌, ◌%◌, ◌⊎◌, inl, inr, Bool, true, false, not, Option, Some, None, List, [], ◌∷◌, ◌++◌, refl, ap, sym, ◌∙◌, subst, arith}
use Rattle.std.specs.Prelude.{Contains}
use Rattle.std.proofs.lemmas.Bool.{cases_eq}
use Rattle.std.proofs.lemmas.Bool.Decides.{nat_tests}
use Rattle.dg_base.proofs.Lists.{contains_head, contains_tail, contains_nothing, contains_cases}
use Rattle.dg_base.specs.declared.Lit.{Lit}
use Rattle.cnf_problem.specs.Literals.{var, is_positive, negated}
use Rattle.cnf_problem.specs.Chains.{IsUnassigned}
use Rattle.cnf_problem.proofs.LiteralLaws.{same_lit, negated-even, negated-odd, parity, var-negated}
use Rattle.trail_state.specs.Trails.{Assigned, Decided, Forced, lit_of, reason, true_lits, level, level_of, reason_of, IsAssigned}
use Rattle.trail_state.specs.Slots.{value_of}

-- a variable has a value or it has none
pub value_cases : (o : Option Bool) → (o ≡ None) ⊎ ((b : Bool) × (o ≡ Some b))
value_cases None = inl refl
value_cases (Some b) = inr (b, refl)

-- the first entry's variable has its sign
pub value_of-here : (v : ℕ) (a : Assigned) (es : List Assigned) → var (lit_of a) ≡ v → value_of v (a ∷ es) ≡ Some (is_positive (lit_of a))
value_of-here v a es e = grind (arith, nat_tests)

-- another variable's value is that behind the first entry
pub value_of-there : (v : ℕ) (a : Assigned) (es : List Assigned) → var (lit_of a) ≢ v → value_of v (a ∷ es) ≡ value_of v es
value_of-there v a es e = grind (arith, nat_tests)

pub level_of-here : (v : ℕ) (a : Assigned) (es : List Assigned) → var (lit_of a) ≡ v → level_of v (a ∷ es) ≡ level (a ∷ [])
level_of-here v (Decided l) es e = grind (arith, nat_tests)
level_of-here v (Forced l id) es e = grind (arith, nat_tests)

pub level_of-there : (v : ℕ) (a : Assigned) (es : List Assigned) → var (lit_of a) ≢ v → level_of v (a ∷ es) ≡ level (a ∷ []) + level_of v es
level_of-there v (Decided l) es e = grind (arith, nat_tests)
level_of-there v (Forced l id) es e = grind (arith, nat_tests)

pub reason_of-here : (v : ℕ) (a : Assigned) (es : List Assigned) → var (lit_of a) ≡ v → reason_of v (a ∷ es) ≡ reason a
reason_of-here v a es e = grind (arith, nat_tests)

pub reason_of-there : (v : ℕ) (a : Assigned) (es : List Assigned) → var (lit_of a) ≢ v → reason_of v (a ∷ es) ≡ reason_of v es
reason_of-there v a es e = grind (arith, nat_tests)

-- one more entry changes no value, level or reason that there was
pub value_of-push_old : (v : ℕ) (es more : List Assigned) (b : Bool) → value_of v es ≡ Some b → value_of v (es ++ more) ≡ Some b
value_of-push_old v [] more b h = cc
value_of-push_old v (x ∷ xs) more b h =
    elim (cases_eq (var (lit_of x)) v) [
      | inl e ↦ value_of-here v x (xs ++ more) e ∙ (sym (value_of-here v x xs e) ∙ h)
      | inr ne ↦ value_of-there v x (xs ++ more) ne ∙ value_of-push_old v xs more b (sym (value_of-there v x xs ne) ∙ h)
    ]

pub level_of-push_old : (v : ℕ) (es more : List Assigned) (b : Bool) → value_of v es ≡ Some b → level_of v (es ++ more) ≡ level_of v es
level_of-push_old v [] more b h = cc
level_of-push_old v (x ∷ xs) more b h =
    elim (cases_eq (var (lit_of x)) v) [
      | inl e ↦ level_of-here v x (xs ++ more) e ∙ sym (level_of-here v x xs e)
      | inr ne ↦
          level_of-there v x (xs ++ more) ne
          ∙ (ap (λ (n : ℕ). level (x ∷ []) + n) (level_of-push_old v xs more b (sym (value_of-there v x xs ne) ∙ h)) ∙ sym (level_of-there v x xs ne))
    ]

pub reason_of-push_old : (v : ℕ) (es more : List Assigned) (b : Bool) → value_of v es ≡ Some b → reason_of v (es ++ more) ≡ reason_of v es
reason_of-push_old v [] more b h = cc
reason_of-push_old v (x ∷ xs) more b h =
    elim (cases_eq (var (lit_of x)) v) [
      | inl e ↦ reason_of-here v x (xs ++ more) e ∙ sym (reason_of-here v x xs e)
      | inr ne ↦ reason_of-there v x (xs ++ more) ne ∙ (reason_of-push_old v xs more b (sym (value_of-there v x xs ne) ∙ h) ∙ sym (reason_of-there v x xs ne))
    ]

-- a variable without a value so far has that of what is added
pub value_of-push_new : (v : ℕ) (es more : List Assigned) → value_of v es ≡ None → value_of v (es ++ more) ≡ value_of v more
value_of-push_new v [] more h = refl
value_of-push_new v (x ∷ xs) more h =
    elim (cases_eq (var (lit_of x)) v) [
      | inl e ↦ let bad : None ≡ Some (is_positive (lit_of x)) = sym h ∙ value_of-here v x xs e in cc
      | inr ne ↦ value_of-there v x (xs ++ more) ne ∙ value_of-push_new v xs more (sym (value_of-there v x xs ne) ∙ h)
    ]

pub level_of-push_new : (v : ℕ) (es more : List Assigned) → value_of v es ≡ None → level_of v (es ++ more) ≡ level es + level_of v more
level_of-push_new v [] more h = omega arith
level_of-push_new v (x ∷ xs) more h =
    elim (cases_eq (var (lit_of x)) v) [
      | inl e ↦ let bad : None ≡ Some (is_positive (lit_of x)) = sym h ∙ value_of-here v x xs e in cc
      | inr ne ↦
          let r = level_of-push_new v xs more (sym (value_of-there v x xs ne) ∙ h) in
          let s = level_of-there v x (xs ++ more) ne in
          let t = level_cons x xs in
          omega arith
    ]
  where
    level_cons : (x : Assigned) (xs : List Assigned) → level (x ∷ xs) ≡ level (x ∷ []) + level xs
    level_cons (Decided l) xs = omega arith
    level_cons (Forced l id) xs = omega arith

pub reason_of-push_new : (v : ℕ) (es more : List Assigned) → value_of v es ≡ None → reason_of v (es ++ more) ≡ reason_of v more
reason_of-push_new v [] more h = refl
reason_of-push_new v (x ∷ xs) more h =
    elim (cases_eq (var (lit_of x)) v) [
      | inl e ↦ let bad : None ≡ Some (is_positive (lit_of x)) = sym h ∙ value_of-here v x xs e in cc
      | inr ne ↦ reason_of-there v x (xs ++ more) ne ∙ reason_of-push_new v xs more (sym (value_of-there v x xs ne) ∙ h)
    ]

-- a variable without a value is none of a true literal
pub none_missing : (v : ℕ) (es : List Assigned) → value_of v es ≡ None → (l : Lit) → Contains (true_lits es) l → var l ≢ v
none_missing v [] h l m e = contains_nothing l m
none_missing v (x ∷ xs) h l m e =
    elim (cases_eq (var (lit_of x)) v) [
      | inl same ↦ let bad : None ≡ Some (is_positive (lit_of x)) = sym h ∙ value_of-here v x xs same in cc
      | inr ne ↦ elim (contains_cases (lit_of x) l (true_lits xs) m) [
        | inl first ↦ ne (ap (λ (z : Lit). var z) (sym first) ∙ e)
        | inr later ↦ none_missing v xs (sym (value_of-there v x xs ne) ∙ h) l later e
      ]
    ]

-- a variable with a value is that of a true literal with this sign
pub some_present : (v : ℕ) (es : List Assigned) (b : Bool) → value_of v es ≡ Some b → (l : Lit) × Contains (true_lits es) l × (var l ≡ v) × (is_positive l ≡ b)
some_present v [] b h = absurd cc
some_present v (x ∷ xs) b h =
    elim (cases_eq (var (lit_of x)) v) [
      | inl e ↦ let s : Some (is_positive (lit_of x)) ≡ Some b = sym (value_of-here v x xs e) ∙ h in (lit_of x, contains_head (lit_of x) (true_lits xs), e, cc)
      | inr ne ↦
          let r = some_present v xs b (sym (value_of-there v x xs ne) ∙ h) in
          (r.0, contains_tail (lit_of x) r.0 (true_lits xs) r.1, r.2, r.3)
    ]

-- two literals of one variable with one sign
pub same_signed : (a b : Lit) → var a ≡ var b → is_positive a ≡ is_positive b → a ≡ b
same_signed a b e s =
    elim (parity a.0) [
      | inl p ↦ elim (parity b.0) [ inl q ↦ same_lit a b (omega arith) | inr q ↦ let t : true ≡ false = sym (is_even a p) ∙ (s ∙ is_odd b q) in cc ]
      | inr p ↦ elim (parity b.0) [ inl q ↦ let t : true ≡ false = sym (is_even b q) ∙ (sym s ∙ is_odd a p) in cc | inr q ↦ same_lit a b (omega arith) ]
    ]
  where
    is_even : (l : Lit) → l.0 % 2 ≡ 0 → is_positive l ≡ true
    is_even l p = grind (arith, nat_tests)

    is_odd : (l : Lit) → l.0 % 2 ≡ 1 → is_positive l ≡ false
    is_odd l p = grind (arith, nat_tests)

-- two literals of one variable are equal, or each is the other's negation
pub same_or_negated : (a b : Lit) → var a ≡ var b → (a ≡ b) ⊎ (a ≡ negated b)
same_or_negated a b e =
    elim (parity a.0) [
      | inl p ↦ elim (parity b.0) [ inl q ↦ inl (same_lit a b (omega arith)) | inr q ↦ inr (same_lit a (negated b) (rw (negated-odd b q) (omega arith))) ]
      | inr p ↦ elim (parity b.0) [ inl q ↦ inr (same_lit a (negated b) (rw (negated-even b q) (omega arith))) | inr q ↦ inl (same_lit a b (omega arith)) ]
    ]

-- no literal is its negation
pub not_own_negation : (l : Lit) → l ≢ negated l
not_own_negation l e =
    let c : l.0 ≡ (negated l).0 = ap (λ (z : Lit). z.0) e in
    elim (parity l.0) [
      | inl p ↦ let n = negated-even l p in omega arith
      | inr p ↦ let n = negated-odd l p in omega arith
    ]

-- an unassigned literal's variable has no value
pub unassigned_none : (es : List Assigned) (l : Lit) → IsUnassigned (true_lits es) l → value_of (var l) es ≡ None
unassigned_none es l free =
    elim (value_cases (value_of (var l) es)) [
      | inl e ↦ e
      | inr some ↦
          let p = some_present (var l) es some.0 some.1 in
          absurd (elim (same_or_negated p.0 l p.2) [
            | inl e ↦ free.0 (subst (λ z. Contains (true_lits es) z) e p.1)
            | inr e ↦ free.1 (subst (λ z. Contains (true_lits es) z) e p.1)
          ])
    ]

-- and the other way round
pub none_unassigned : (es : List Assigned) (l : Lit) → value_of (var l) es ≡ None → IsUnassigned (true_lits es) l
none_unassigned es l h = (λ m. none_missing (var l) es h l m refl, λ m. none_missing (var l) es h (negated l) m (var-negated l))

-- what has a value is assigned
pub some_assigned : (v : ℕ) (es : List Assigned) (b : Bool) → value_of v es ≡ Some b → IsAssigned es v
some_assigned v es b h = let p = some_present v es b h in (p.0, p.1, p.2)

-- and what is assigned has a value
pub assigned_some : (v : ℕ) (es : List Assigned) → IsAssigned es v → (b : Bool) × (value_of v es ≡ Some b)
assigned_some v es a =
    elim (value_cases (value_of v es)) [
      | inl e ↦ absurd (none_missing v es e a.0 a.1 a.2)
      | inr some ↦ some
    ]

-- a negation has the other sign
pub negated-sign : (l : Lit) → is_positive (negated l) ≡ not (is_positive l)
negated-sign l =
    elim (parity l.0) [
      | inl e ↦ let n = negated-even l e in let odd : (negated l).0 % 2 ≡ 1 = omega arith in grind (arith, nat_tests)
      | inr e ↦ let n = negated-odd l e in let even : (negated l).0 % 2 ≡ 0 = omega arith in grind (arith, nat_tests)
    ]
