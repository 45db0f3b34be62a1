-- How many elements pass a test.
use Rattle.std.proofs.Common.{◌≡◌, ℕ, zero, suc, ◌<◌, ◌≤◌, inl, inr, Bool, true, false, List, [], ◌∷◌, length, refl, ap, sym, ◌∙◌, arith}
use Rattle.std.specs.Prelude.{Some, slice_get, filter}
use Rattle.std.proofs.lemmas.Bool.{cases_Bool}

-- one more, where the first passes
pub count_yes : {X : Type 0} (p : X → Bool) (x : X) (xs : List X) → p x ≡ true → length (filter p (x ∷ xs)) ≡ suc (length (filter p xs))
count_yes p x xs e = rw e

-- as many, where it does not
pub count_no : {X : Type 0} (p : X → Bool) (x : X) (xs : List X) → p x ≡ false → length (filter p (x ∷ xs)) ≡ length (filter p xs)
count_no p x xs e = rw e

-- tests that agree on the elements keep as many
pub count_agree : {X : Type 0} (p q : X → Bool) (xs : List X) → ((k : ℕ) (x : X) → slice_get xs k ≡ Some x → p x ≡ q x) → length (filter p xs) ≡ length (filter q xs)
count_agree p q [] h = refl
count_agree p q (x ∷ xs) h =
    let r = count_agree p q xs (λ k. h (suc k)) in
    let e = h 0 x refl in
    elim (cases_Bool (p x)) [
      | inl t ↦ count_yes p x xs t ∙ ap suc r ∙ sym (count_yes q x xs (sym e ∙ t))
      | inr f ↦ count_no p x xs f ∙ r ∙ sym (count_no q x xs (sym e ∙ f))
    ]

-- tests that agree but at one place, where only the second passes
pub count_more : {X : Type 0} (p q : X → Bool) (xs : List X) (i : ℕ) (x : X) → slice_get xs i ≡ Some x → p x ≡ false → q x ≡ true
    → ((k : ℕ) (y : X) → slice_get xs k ≡ Some y → (k ≡ i → ⊥) → p y ≡ q y) → length (filter q xs) ≡ suc (length (filter p xs))
count_more p q [] i x e f t h = absurd (cc)
count_more p q (y ∷ ys) zero x e f t h =
    let s : y ≡ x = cc in
    let r = count_agree p q ys (λ k z ez. h (suc k) z ez (λ w. omega arith)) in
    let py : p y ≡ false = ap p s ∙ f in
    let qy : q y ≡ true = ap q s ∙ t in
    count_yes q y ys qy ∙ ap suc (sym r) ∙ ap suc (sym (count_no p y ys py))
count_more p q (y ∷ ys) (suc i) x e f t h =
    let r = count_more p q ys i x e f t (λ k z ez n. h (suc k) z ez (λ w. n (omega arith))) in
    let a = h 0 y refl (λ w. omega arith) in
    elim (cases_Bool (p y)) [
      | inl b ↦ count_yes q y ys (sym a ∙ b) ∙ ap suc r ∙ ap suc (sym (count_yes p y ys b))
      | inr b ↦ count_no q y ys (sym a ∙ b) ∙ r ∙ ap suc (sym (count_no p y ys b))
    ]

-- where the count is not 0, some element passes
pub one_passes : {X : Type 0} (p : X → Bool) (xs : List X) → 0 < length (filter p xs) → (k : ℕ) × (x : X) × (slice_get xs k ≡ Some x) × (p x ≡ true)
one_passes p [] h = absurd (omega arith)
one_passes p (x ∷ xs) h =
    elim (cases_Bool (p x)) [
      | inl t ↦ (0, x, refl, t)
      | inr f ↦ let r = one_passes p xs (omega (arith, count_no p x xs f)) in (suc r.0, r.1, r.2, r.3)
    ]

-- where it is above 1, some element at another place passes
pub another_passes : {X : Type 0} (p : X → Bool) (xs : List X) (i : ℕ) → 1 < length (filter p xs) → (k : ℕ) × (x : X) × (slice_get xs k ≡ Some x) × (p x ≡ true) × (k ≡ i → ⊥)
another_passes p [] i h = absurd (omega arith)
another_passes p (x ∷ xs) zero h =
    elim (cases_Bool (p x)) [
      | inl t ↦ let r = one_passes p xs (omega (arith, count_yes p x xs t)) in (suc r.0, r.1, r.2, r.3, λ w. omega arith)
      | inr f ↦ let r = one_passes p xs (omega (arith, count_no p x xs f)) in (suc r.0, r.1, r.2, r.3, λ w. omega arith)
    ]
another_passes p (x ∷ xs) (suc i) h =
    elim (cases_Bool (p x)) [
      | inl t ↦ (0, x, refl, t, λ w. omega arith)
      | inr f ↦ let r = another_passes p xs i (omega (arith, count_no p x xs f)) in (suc r.0, r.1, r.2, r.3, λ w. r.4 (omega arith))
    ]

-- an element that passes is counted
pub passes_counted : {X : Type 0} (p : X → Bool) (xs : List X) (k : ℕ) (x : X) → slice_get xs k ≡ Some x → p x ≡ true → 0 < length (filter p xs)
passes_counted p [] k x e t = absurd (cc)
passes_counted p (y ∷ ys) zero x e t = let s : y ≡ x = cc in omega (arith, count_yes p y ys (ap p s ∙ t))
passes_counted p (y ∷ ys) (suc k) x e t =
    let r = passes_counted p ys k x e t in
    elim (cases_Bool (p y)) [
      | inl b ↦ omega (arith, count_yes p y ys b)
      | inr b ↦ omega (arith, count_no p y ys b)
    ]

-- where the count is 1, two elements that pass stand at one place
pub only_one : {X : Type 0} (p : X → Bool) (xs : List X) (i j : ℕ) (x y : X) → length (filter p xs) ≡ 1 → slice_get xs i ≡ Some x → p x ≡ true → slice_get xs j ≡ Some y → p y ≡ true → i ≡ j
only_one p [] i j x y one ex px ey py = absurd (cc)
only_one p (z ∷ zs) zero zero x y one ex px ey py = refl
only_one p (z ∷ zs) zero (suc j) x y one ex px ey py =
    let s : z ≡ x = cc in
    absurd (omega (arith, passes_counted p zs j y ey py, count_yes p z zs (ap p s ∙ px)))
only_one p (z ∷ zs) (suc i) zero x y one ex px ey py =
    let s : z ≡ y = cc in
    absurd (omega (arith, passes_counted p zs i x ex px, count_yes p z zs (ap p s ∙ py)))
only_one p (z ∷ zs) (suc i) (suc j) x y one ex px ey py =
    elim (cases_Bool (p z)) [
      | inl b ↦ absurd (omega (arith, passes_counted p zs i x ex px, count_yes p z zs b))
      | inr b ↦ ap suc (only_one p zs i j x y (sym (count_no p z zs b) ∙ one) ex px ey py)
    ]

-- no more are kept than there are
pub count_le : {X : Type 0} (p : X → Bool) (xs : List X) → length (filter p xs) ≤ length xs
count_le p [] = omega arith
count_le p (x ∷ xs) =
    let r = count_le p xs in
    elim (cases_Bool (p x)) [
      | inl b ↦ omega (arith, count_yes p x xs b)
      | inr b ↦ omega (arith, count_no p x xs b)
    ]
