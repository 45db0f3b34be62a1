-- Which element stands where in a list that was written, grown, cut or turned.
use Rattle.std.proofs.Common.{◌≡◌, ◌≢◌, ℕ, zero, suc, ◌+◌, ◌-◌, ◌<◌, List, [], ◌∷◌, ◌++◌, length, drop, Some, refl, sym, ◌∙◌, ap, subst, ⊎_elim, inl, inr, arith}
use Rattle.std.specs.Prelude.{◌⊎◌, slice_get, reverse}
use Rattle.std.proofs.Math.ListN.{set}
use Rattle.std.proofs.lemmas.Bool.{cases_eq}
use Rattle.std.proofs.lemmas.List.{get_or-reverse, length-reverse}
use Rattle.std.proofs.lemmas.Option.{none-some, same_Some, slice_get_within, slice_get_read, get_or_from_slice_get}
use Rattle.dg_base.proofs.Lists.{get_append_left, get_append_cases, get_set_same}
use Rattle.axiom_model.specs.Sorting.{NoRepeats}

-- a place of a list with one more element
pub place_push : {X : Type 0} (l : List X) (x y : X) (i : ℕ) → slice_get (l ++ x ∷ []) i ≡ Some y → (slice_get l i ≡ Some y) ⊎ ((i ≡ length l) × (x ≡ y))
place_push [] x y zero e = inr (refl, same_Some x y e)
place_push [] x y (suc i) e = absurd (none-some y e)
place_push (z ∷ l) x y zero e = inl e
place_push (z ∷ l) x y (suc i) e = ⊎_elim (λ p. inl p) (λ p. inr (ap suc p.0, p.1)) (place_push l x y i e)

pub place_right : {X : Type 0} (l m : List X) (i p : ℕ) (y : X) → i ≡ length l + p → slice_get m p ≡ Some y → slice_get (l ++ m) i ≡ Some y
place_right [] m i p y h e = let same : p ≡ i = omega arith in subst (λ n. slice_get m n ≡ Some y) same e
place_right (z ∷ l) m zero p y h e = absurd (omega arith)
place_right (z ∷ l) m (suc i) p y h e = place_right l m i p y (omega arith) e

-- a place of a list that was written
pub place_set : {X : Type 0} (l : List X) (i j : ℕ) (x y : X) → slice_get (set l i x) j ≡ Some y → ((j ≢ i) × (slice_get l j ≡ Some y)) ⊎ ((j ≡ i) × (x ≡ y))
place_set [] i j x y e = absurd (none-some y e)
place_set (z ∷ l) zero zero x y e = inr (refl, same_Some x y e)
place_set (z ∷ l) zero (suc j) x y e = inl ((λ h. absurd (omega arith)), e)
place_set (z ∷ l) (suc i) zero x y e = inl ((λ h. absurd (omega arith)), e)
place_set (z ∷ l) (suc i) (suc j) x y e =
    ⊎_elim (λ p. inl ((λ h. p.0 (omega arith)), p.1)) (λ p. inr (ap suc p.0, p.1)) (place_set l i j x y e)

pub place_set_other : {X : Type 0} (l : List X) (i j : ℕ) (x y : X) → j ≢ i → slice_get l j ≡ Some y → slice_get (set l i x) j ≡ Some y
place_set_other [] i j x y n e = absurd (none-some y e)
place_set_other (z ∷ l) zero zero x y n e = absurd (n refl)
place_set_other (z ∷ l) zero (suc j) x y n e = e
place_set_other (z ∷ l) (suc i) zero x y n e = e
place_set_other (z ∷ l) (suc i) (suc j) x y n e = place_set_other l i j x y (λ h. n (ap suc h)) e

-- what stood there already stays
pub place_set_kept : {X : Type 0} (l : List X) (i j : ℕ) (x : X) → slice_get l j ≡ Some x → slice_get (set l i x) j ≡ Some x
place_set_kept l i j x e =
    ⊎_elim (λ h. subst (λ n. slice_get (set l n x) j ≡ Some x) h (get_set_same l j x (slice_get_within l j x e))) (λ n. place_set_other l i j x x n e) (cases_eq j i)

-- a place of a list without its first n elements
pub place_drop : {X : Type 0} (n : ℕ) (l : List X) (i : ℕ) (y : X) → slice_get (drop n l) i ≡ Some y → slice_get l (n + i) ≡ Some y
place_drop zero l i y e = let same : i ≡ 0 + i = omega arith in subst (λ k. slice_get l k ≡ Some y) same e
place_drop (suc n) [] i y e = absurd (none-some y e)
place_drop (suc n) (z ∷ l) i y e =
    let same : suc (n + i) ≡ suc n + i = omega arith in subst (λ k. slice_get (z ∷ l) k ≡ Some y) same (place_drop n l i y e)

-- a place of a list from the last to the first
pub place_reverse : {X : Type 0} (l : List X) (i : ℕ) (y : X) → slice_get (reverse l) i ≡ Some y → (i < length l) × (slice_get l (length l - 1 - i) ≡ Some y)
place_reverse l i y e =
    let h : i < length l = omega (arith, slice_get_within (reverse l) i y e, length-reverse l) in
    (h, slice_get_read l (length l) (length l - 1 - i) y refl (omega arith) (sym (get_or_from_slice_get (reverse l) i y y e) ∙ get_or-reverse l i y h))

-- ---- lists without repetition

pub once_drop : (n : ℕ) (l : List ℕ) → NoRepeats l → NoRepeats (drop n l)
once_drop n l o i j v h k =
    let e = o (n + i) (n + j) v (place_drop n l i v h) (place_drop n l j v k) in omega arith

pub once_reverse : (l : List ℕ) → NoRepeats l → NoRepeats (reverse l)
once_reverse l o i j v h k =
    let p = place_reverse l i v h in
    let q = place_reverse l j v k in
    let e = o (length l - 1 - i) (length l - 1 - j) v p.1 q.1 in
    omega (arith, p.0, q.0, e)

pub once_turn : (l m : List ℕ) → NoRepeats (l ++ m) → NoRepeats (m ++ l)
once_turn l m o i j v h k =
    ⊎_elim
    (λ a. ⊎_elim (λ b. let e = o (length l + i) (length l + j) v (behind i a) (behind j b) in omega arith) (λ b. absurd (apart i b.0 a b.2)) (get_append_cases m l j v k))
    (λ a. ⊎_elim (λ b. absurd (apart j a.0 b a.2)) (λ b. let e = o a.0 b.0 v (get_append_left l m a.0 v a.2) (get_append_left l m b.0 v b.2) in omega (arith, a.1, b.1, e)) (get_append_cases m l j v k))
    (get_append_cases m l i v h)
  where
    behind : (i : ℕ) → slice_get m i ≡ Some v → slice_get (l ++ m) (length l + i) ≡ Some v
    behind i a = place_right l m (length l + i) i v refl a

    apart : (i p : ℕ) → slice_get m i ≡ Some v → slice_get l p ≡ Some v → ⊥
    apart i p a b =
        let e = o (length l + i) p v (behind i a) (get_append_left l m p v b) in
        let w = slice_get_within l p v b in
        omega arith

pub once_push : (l : List ℕ) (x : ℕ) → NoRepeats l → ((i : ℕ) → slice_get l i ≡ Some x → ⊥) → NoRepeats (l ++ x ∷ [])
once_push l x o n i j v h k =
    ⊎_elim
    (λ a. ⊎_elim (λ b. o i j v a b) (λ b. absurd (n i (subst (λ y. slice_get l i ≡ Some y) (sym b.1) a))) (place_push l x v j k))
    (λ a. ⊎_elim (λ b. absurd (n j (subst (λ y. slice_get l j ≡ Some y) (sym a.1) b))) (λ b. a.0 ∙ sym b.0) (place_push l x v j k))
    (place_push l x v i h)

pub once_front : (l : List ℕ) (x : ℕ) → NoRepeats (l ++ x ∷ []) → NoRepeats l
once_front l x o i j v h k = o i j v (get_append_left l (x ∷ []) i v h) (get_append_left l (x ∷ []) j v k)
