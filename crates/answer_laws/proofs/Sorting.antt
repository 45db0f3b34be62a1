-- A list whose elements each stand before or behind each other one can be put in an order that rises.
use Rattle.std.proofs.Common.{◌≡◌, ◌≢◌, ℕ, suc, ◌⊎◌, List, [], ◌∷◌, Bool, true, ◌&&◌, Some, refl, ⊎_elim, arith}
use Rattle.std.specs.Prelude.{slice_get, All, IsPermutation}
use Rattle.std.proofs.lemmas.Bool.{and_from, and_parts}
use Rattle.std.proofs.lemmas.List.Elements.{All-cons}
use Rattle.std.proofs.lemmas.List.Sorted.{All-permutation, IsPermutation-cons, IsPermutation-refl, IsPermutation-swap, IsPermutation-trans}
use Rattle.witness_text.specs.Spelling.{rises, rises_from}

module _ {A : Type 0} (before : A → A → Bool) where
  -- one of the two stands before the other
  abbrev pub Apart : A → A → Type 0
  Apart x y = (before x y ≡ true) ⊎ (before y x ≡ true)

  -- an element in its place in a list that rises
  record Inserted (x : A) (ys : List A) : Type 0 where
    list : List A
    moved : IsPermutation (x ∷ ys) list
    behind : (w : A) → before w x ≡ true → rises_from before w ys ≡ true → rises_from before w list ≡ true
    rising : rises before ys ≡ true → rises before list ≡ true

  abbrev ApartFrom : A → List A → Type 0
  ApartFrom x [] = Unit {0}
  ApartFrom x (y ∷ ys) = Apart x y × ApartFrom x ys

  -- in front of all
  in_front : (x y : A) (ys : List A) → before x y ≡ true → Inserted x (y ∷ ys)
  in_front x y ys b = record {
    list = x ∷ y ∷ ys;
    moved = IsPermutation-refl (x ∷ y ∷ ys);
    behind = λ w l r. and_from (before w x) (before x y && rises_from before y ys) l (and_from (before x y) (rises_from before y ys) b (and_parts (before w y) (rises_from before y ys) r).1);
    rising = λ r. and_from (before x y) (rises_from before y ys) b r;
  }

  swap_front : (x y : A) (ys : List A) → IsPermutation (x ∷ y ∷ ys) (y ∷ x ∷ ys)
  swap_front x y ys = IsPermutation-swap (x ∷ y ∷ ys) (y ∷ x ∷ ys) 0 1 (omega arith) (omega arith) refl

  -- behind the first
  in_behind : (x y : A) (ys : List A) → before y x ≡ true → Inserted x ys → Inserted x (y ∷ ys)
  in_behind x y ys b r = record {
    list = y ∷ r.list;
    moved = IsPermutation-trans (x ∷ y ∷ ys) (y ∷ x ∷ ys) (y ∷ r.list) (swap_front x y ys) (IsPermutation-cons y (x ∷ ys) r.list r.moved);
    behind = λ w l h. let parts = and_parts (before w y) (rises_from before y ys) h in and_from (before w y) (rises_from before y r.list) parts.0 (r.behind y b parts.1);
    rising = λ h. r.behind y b h;
  }

  inserted : (x : A) (ys : List A) → ApartFrom x ys → Inserted x ys
  inserted x [] a = record { list = x ∷ []; moved = IsPermutation-refl (x ∷ []); behind = λ w l r. and_from (before w x) true l refl; rising = λ r. refl }
  inserted x (y ∷ ys) a = let r = inserted x ys a.1 in ⊎_elim (λ b. in_front x y ys b) (λ b. in_behind x y ys b r) a.0

  -- a list in an order that rises
  pub record Sorted (xs : List A) : Type 0 where
    pub list : List A
    pub moved : IsPermutation xs list
    pub rising : rises before list ≡ true

  abbrev pub AllApart : List A → Type 0
  AllApart [] = Unit {0}
  AllApart (x ∷ xs) = ApartFrom x xs × AllApart xs

  apart_all : (x : A) (ys : List A) → ApartFrom x ys → All (Apart x) ys
  apart_all x [] a = λ k d l. absurd (omega arith)
  apart_all x (y ∷ ys) a = All-cons (Apart x) y ys a.0 (apart_all x ys a.1)

  all_apart : (x : A) (ys : List A) → All (Apart x) ys → ApartFrom x ys
  all_apart x [] a = tt
  all_apart x (y ∷ ys) a = (a 0 y (omega arith), all_apart x ys (λ k d l. a (suc k) d (omega arith)))

  pub sorted : (xs : List A) → AllApart xs → Sorted xs
  sorted [] a = record { list = []; moved = IsPermutation-refl []; rising = refl }
  sorted (x ∷ xs) a =
      let s = sorted xs a.1 in
      let r = inserted x s.list (all_apart x s.list (All-permutation (Apart x) xs s.list s.moved (apart_all x xs a.0))) in
      record { list = r.list; moved = IsPermutation-trans (x ∷ xs) (x ∷ s.list) r.list (IsPermutation-cons x xs s.list s.moved) r.moved; rising = r.rising s.rising }

  apart_at : (x : A) (ys : List A) → ((k : ℕ) (y : A) → slice_get ys k ≡ Some y → Apart x y) → ApartFrom x ys
  apart_at x [] h = tt
  apart_at x (y ∷ ys) h = (h 0 y refl, apart_at x ys (λ k. h (suc k)))

  -- from places
  pub apart_from : (xs : List A) → ((i j : ℕ) (x y : A) → i ≢ j → slice_get xs i ≡ Some x → slice_get xs j ≡ Some y → Apart x y) → AllApart xs
  apart_from [] h = tt
  apart_from (x ∷ xs) h =
      (apart_at x xs (λ k y e. h 0 (suc k) x y (λ s. absurd (omega arith)) refl e), apart_from xs (λ i j y z n. h (suc i) (suc j) y z (λ s. n (omega arith))))
