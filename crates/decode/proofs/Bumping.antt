-- A counter in a table goes up by one.
use Rattle.std.proofs.Common.{◌≡◌, ℕ, ◌+◌, ◌<◌, ◌≢◌, ⊎_elim, List, Bool, true, false, cond, nat_eq, length, get_or, set, refl, ap, sym, ◌∙◌, add-zero}
use Rattle.std.specs.Prelude.{◌&&◌}
use Rattle.std.proofs.lemmas.Bool.{cases_eq, eq-eqb, ne_eqb}
use Rattle.std.proofs.lemmas.Option.{get_or_from_slice_get, slice_get-get_or}
use Rattle.dg_base.specs.Values.{truth_of}
use Rattle.dg_base.proofs.Lists.{get_set_same, get_set_other}

and_false : (a : Bool) → (a && false) ≡ false
and_false true = refl
and_false false = refl

module _ (xs : List ℕ) (u v : ℕ) (low : v < length xs) where
  at_same : u ≡ v → get_or (set xs u (get_or xs u 0 + 1)) v 0 ≡ get_or xs v 0 + truth_of (nat_eq u v && true)
  at_same q =
      let y = get_or xs v 0 + 1 in
      ap (λ (k : ℕ). get_or (set xs k (get_or xs k 0 + 1)) v 0) q
      ∙ (get_or_from_slice_get (set xs v y) v y 0 (get_set_same xs v y low)
      ∙ ap (λ (b : Bool). get_or xs v 0 + truth_of (b && true)) (sym (eq-eqb u v q)))

  at_other : u ≢ v → get_or (set xs u (get_or xs u 0 + 1)) v 0 ≡ get_or xs v 0 + truth_of (nat_eq u v && true)
  at_other q =
      let y = get_or xs u 0 + 1 in
      let stays = get_set_other xs u v y (λ r. q (sym r)) in
      get_or_from_slice_get (set xs u y) v (get_or xs v 0) 0 (stays ∙ slice_get-get_or xs v 0 low)
      ∙ (sym (add-zero (get_or xs v 0)) ∙ ap (λ (b : Bool). get_or xs v 0 + truth_of (b && true)) (sym (ne_eqb u v q)))

  pub bump : (b : Bool) → get_or (cond b (set xs u (get_or xs u 0 + 1)) xs) v 0 ≡ get_or xs v 0 + truth_of (nat_eq u v && b)
  bump true = ⊎_elim at_same at_other (cases_eq u v)
  bump false = sym (ap (λ (b : Bool). get_or xs v 0 + truth_of b) (and_false (nat_eq u v)) ∙ add-zero (get_or xs v 0))
