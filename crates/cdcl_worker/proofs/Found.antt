-- What a look through a clause for its literals' levels has found.
use Rattle.std.proofs.Common.{◌≡◌, ℕ, ◌+◌, ◌<◌, ◌≤◌, ◌⊎◌, inl, inr, Bool, true, false, List, length, get_or, refl, ap, sym, ◌∙◌, subst, arith, Option, Some, None, slice_get}
use Rattle.std.specs.Prelude.{Contains}
use Rattle.std.specs.Option.{is_some}
use Rattle.std.proofs.lemmas.Bool.{cases_eq}
use Rattle.std.proofs.lemmas.Option.{get_or_from_slice_get, slice_get_within}
use Rattle.dg_base.specs.declared.Lit.{Lit}
use Rattle.dg_base.proofs.Lists.{place_of}
use Rattle.cnf_problem.specs.Literals.{var, negated}
use Rattle.cnf_problem.proofs.LiteralLaws.{var-negated}
use Rattle.trail_state.specs.Trails.{Assigned, true_lits, level_of, IsAssigned, HasValue}
use Rattle.trail_state.proofs.Assigning.{same_or_negated}

-- a literal with a truth value is of an assigned variable
pub value_assigned : (entries : List Assigned) (l : Lit) (o : Option Bool) → HasValue (true_lits entries) l o → is_some o ≡ true → IsAssigned entries (var l)
value_assigned entries l None value some = absurd (cc)
value_assigned entries l (Some true) value some = (l, value.0, refl)
value_assigned entries l (Some false) value some = (negated l, value.0, var-negated l)

-- and one without is not
pub none_assigned : (entries : List Assigned) (l : Lit) (o : Option Bool) → HasValue (true_lits entries) l o → is_some o ≡ false → IsAssigned entries (var l) → ⊥
none_assigned entries l None value none (m, has, same) = elim (same_or_negated m l same) [
  | inl e ↦ value.0 (subst (λ x. Contains (true_lits entries) x) e has)
  | inr e ↦ value.1 (subst (λ x. Contains (true_lits entries) x) e has)
]
none_assigned entries l (Some b) value none assigned = absurd (cc)

module _ (entries : List Assigned) (clause : List Lit) (most : ℕ) where
  -- no literal before a place is of a greater level, of those up to `most`
  abbrev pub IsGreatest : ℕ → ℕ → Type 0
  IsGreatest n greatest = (k : ℕ) (m : Lit) → k < n → slice_get clause k ≡ Some m → IsAssigned entries (var m) → level_of (var m) entries ≤ most → level_of (var m) entries ≤ greatest

  -- nor one up to the place
  pub greatest_next : (n before after : ℕ) (d : Lit) → IsGreatest n before → before ≤ after
      → (IsAssigned entries (var (get_or clause n d)) → level_of (var (get_or clause n d)) entries ≤ most → level_of (var (get_or clause n d)) entries ≤ after) → IsGreatest (n + 1) after
  greatest_next n before after d old le here k m lt at assigned few = elim (cases_eq k n) [
    | inl same ↦
        let is : get_or clause n d ≡ m = get_or_from_slice_get clause n m d (subst (λ i. slice_get clause i ≡ Some m) same at) in
        subst (λ (x : Lit). level_of (var x) entries ≤ after) is
        (here (subst (λ (x : Lit). IsAssigned entries (var x)) (sym is) assigned) (subst (λ (x : Lit). level_of (var x) entries ≤ most) (sym is) few))
    | inr apart ↦ (let r = old k m (omega arith) at assigned few in omega arith)
  ]

  -- so none of the clause is, at its end
  pub greatest_all : (n greatest : ℕ) → length clause ≤ n → IsGreatest n greatest → (l : Lit) → Contains clause l → IsAssigned entries (var l) → level_of (var l) entries ≤ most → level_of (var l) entries ≤ greatest
  greatest_all n greatest long all l has assigned few =
      let r = place_of clause l has in
      all r.0 l (let w = slice_get_within clause r.0 l r.1 in omega arith) r.1 assigned few
