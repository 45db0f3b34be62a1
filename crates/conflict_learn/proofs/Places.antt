-- Lists by the places of their elements.
use Rattle.std.proofs.Common.{◌≡◌, ℕ, zero, suc, ◌+◌, get_or, ◌<◌, ◌≤◌, inl, inr, List, [], ◌∷◌, map, take, length, refl, ap, sym, subst, arith}
use Rattle.std.specs.Prelude.{Option, Some, None, Contains, slice_get, filter_map}
use Rattle.std.proofs.lemmas.Bool.{cases_lt}
use Rattle.std.proofs.lemmas.Option.{get_or_from_slice_get, slice_get_within}
use Rattle.dg_base.proofs.Lists.{place_of, contains_head, contains_tail, contains_nothing, contains_cases}

-- an element of the first images has a place there
pub place_in_front : {X Y : Type 0} (f : X → Y) (xs : List X) (n : ℕ) (y : Y) → Contains (map f (take n xs)) y → (k : ℕ) × (k < n) × (slice_get (map f xs) k ≡ Some y)
place_in_front f xs zero y h = absurd (contains_nothing y h)
place_in_front f [] (suc n) y h = absurd (contains_nothing y h)
place_in_front f (x ∷ xs) (suc n) y h =
    elim (contains_cases (f x) y (map f (take n xs)) h) [
      | inl e ↦ (0, omega arith, ap Some (sym e))
      | inr m ↦ let r = place_in_front f xs n y m in (suc r.0, omega arith, r.2)
    ]

-- what the test makes of an element is in the list that it makes
pub in_filter_map : {X Y : Type 0} (f : X → Option Y) (xs : List X) (k : ℕ) (x : X) (y : Y) → slice_get xs k ≡ Some x → f x ≡ Some y → Contains (filter_map f xs) y
in_filter_map f [] k x y e h = absurd (cc)
in_filter_map f (z ∷ zs) zero x y e h = let q : f z ≡ Some y = cc in rw q (contains_head y (filter_map f zs))
in_filter_map {Y = Y} f (z ∷ zs) (suc k) x y e h = by_image (f z) refl (in_filter_map f zs k x y e h)
  where
    by_image : (o : Option Y) → f z ≡ o → Contains (filter_map f zs) y → Contains (filter_map f (z ∷ zs)) y
    by_image None q later = rw q later
    by_image (Some w) q later = rw q (contains_tail w y (filter_map f zs) later)

-- what holds at the places before one, and of the element there, holds at the places before the next
pub each_before_next : {X : Type 0} (xs : List X) (P : X → Type 0) (i : ℕ) (d : X) → i < length xs → ((k : ℕ) (x : X) → k < i → slice_get xs k ≡ Some x → P x) → P (get_or xs i d) → (k : ℕ) (x : X) → k < i + 1 → slice_get xs k ≡ Some x → P x
each_before_next xs P i d lt before here k x less e =
    elim (cases_lt k i) [
      | inl older ↦ before k x older e
      | inr ge ↦
          let same : k ≡ i = omega arith in
          subst (λ z. P z) (get_or_from_slice_get xs i x d (subst (λ j. slice_get xs j ≡ Some x) same e)) here
    ]

-- what holds at all places holds of each element
pub each_of_all : {X : Type 0} (xs : List X) (P : X → Type 0) (n : ℕ) → length xs ≤ n → ((k : ℕ) (x : X) → k < n → slice_get xs k ≡ Some x → P x) → (x : X) → Contains xs x → P x
each_of_all xs P n le all x c =
    let p = place_of xs x c in
    let lt = slice_get_within xs p.0 x p.1 in
    all p.0 x (omega arith) p.1
