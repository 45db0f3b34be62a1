-- Elements of a list by their places.
use Rattle.std.proofs.Common.{◌≡◌, ◌≢◌, ℕ, ◌<◌, ◌⊎◌, inl, inr, List, length, get_or, set}
use Rattle.std.proofs.lemmas.Bool.{cases_eq}
use Rattle.std.proofs.lemmas.List.{get_or-set_same, get_or-set_other}

-- what a list has at a place after a write
pub after_set : {X : Type 0} (xs : List X) (i : ℕ) (y : X) (j : ℕ) (d : X) → i < length xs → ((j ≡ i) × (get_or (set xs i y) j d ≡ y)) ⊎ ((j ≢ i) × (get_or (set xs i y) j d ≡ get_or xs j d))
after_set xs i y j d h =
    elim (cases_eq j i) [
      | inl e ↦ inl (e, rw e (get_or-set_same xs i y d h))
      | inr apart ↦ inr (apart, get_or-set_other xs i j y d apart)
    ]
