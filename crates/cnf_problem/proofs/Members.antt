-- Lists by what they contain.
use Rattle.std.proofs.Common.{◌≡◌, ℕ, suc, zero, ◌⊎◌, inl, inr, List, [], ◌∷◌, take, sym, subst, arith}
use Rattle.std.specs.Prelude.{Contains}
use Rattle.dg_base.proofs.Lists.{contains_head, contains_tail, contains_nothing, contains_cases}

-- an element by another name
pub contains_same : {X : Type 0} (x y : X) (xs : List X) → x ≡ y → Contains xs x → Contains xs y
contains_same x y xs e h = subst (λ z. Contains xs z) e h

-- whether a list contains an element, where equality can be tested
pub contains_or_not : {X : Type 0} → ((x y : X) → (x ≡ y) ⊎ (x ≡ y → ⊥)) → (xs : List X) (y : X) → Contains xs y ⊎ (Contains xs y → ⊥)
contains_or_not same [] y = inr (contains_nothing y)
contains_or_not same (x ∷ xs) y =
    elim (same x y) [
      | inl e ↦ inl (subst (λ z. Contains (x ∷ xs) z) e (contains_head x xs))
      | inr apart ↦ elim (contains_or_not same xs y) [
        | inl m ↦ inl (contains_tail x y xs m)
        | inr missing ↦ inr (λ h. elim (contains_cases x y xs h) [ inl e ↦ apart (sym e) | inr m ↦ missing m ])
      ]
    ]

-- an element of the first part of a list
pub contains_take : {X : Type 0} (n : ℕ) (xs : List X) (x : X) → Contains (take n xs) x → Contains xs x
contains_take zero xs x h = absurd (contains_nothing x h)
contains_take (suc n) [] x h = h
contains_take (suc n) (y ∷ ys) x h =
    elim (contains_cases y x (take n ys) h) [
      | inl e ↦ subst (λ z. Contains (y ∷ ys) z) (sym e) (contains_head y ys)
      | inr m ↦ contains_tail y x ys (contains_take n ys x m)
    ]
