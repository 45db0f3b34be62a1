-- How many of the first items of a list pass a test.
use Rattle.std.proofs.Common.{◌≡◌, ℕ, zero, suc, ◌+◌, ◌<◌, ◌≤◌, inl, inr, Bool, true, false, List, [], ◌∷◌, ◌++◌, length, Some, refl, ap, arith}
use Rattle.std.specs.Prelude.{slice_get}
use Rattle.std.proofs.lemmas.Bool.{cases_lt}
use Rattle.std.proofs.lemmas.Option.{none-some, same_Some}
use Rattle.dg_base.specs.Values.{truth_of}
use Rattle.event_graph.specs.Laws.{count_before}

-- how many of all items pass
abbrev pub count_all : {X : Type 0} → (X → Bool) → List X → ℕ
count_all p xs = count_before p (length xs) xs

-- ---- one item more

pub count_up : {X : Type 0} (p : X → Bool) (j : ℕ) (xs : List X) (x : X) → slice_get xs j ≡ Some x → count_before p (suc j) xs ≡ count_before p j xs + truth_of (p x)
count_up p j [] x e = absurd (none-some x e)
count_up p zero (y ∷ ys) x e = let same = ap (λ z. truth_of (p z)) (same_Some y x e) in omega (arith, same)
count_up p (suc j) (y ∷ ys) x e = let r = count_up p j ys x e in omega (arith, r)

pub count_rises : {X : Type 0} (p : X → Bool) (j k : ℕ) (xs : List X) → j ≤ k → count_before p j xs ≤ count_before p k xs
count_rises p zero k xs h = omega arith
count_rises p (suc j) zero xs h = absurd (omega arith)
count_rises p (suc j) (suc k) [] h = omega arith
count_rises p (suc j) (suc k) (x ∷ xs) h = let r = count_rises p j k xs (omega arith) in omega (arith, r)

-- an item that passes is counted behind its place
pub count_behind : {X : Type 0} (p : X → Bool) (j k : ℕ) (xs : List X) (x : X) → slice_get xs j ≡ Some x → p x ≡ true → j < k → count_before p j xs < count_before p k xs
count_behind p j k xs x e passes h =
    let up = count_up p j xs x e in
    let one = ap truth_of passes in
    let r = count_rises p (suc j) k xs (omega arith) in
    omega (arith, up, one, r)

pub count_most : {X : Type 0} (p : X → Bool) (j : ℕ) (xs : List X) → count_before p j xs ≤ count_all p xs
count_most p zero xs = omega arith
count_most p (suc j) [] = omega arith
count_most p (suc j) (x ∷ xs) = let r = count_most p j xs in omega (arith, r)

pub count_within : {X : Type 0} (p : X → Bool) (j : ℕ) (xs : List X) (x : X) → slice_get xs j ≡ Some x → p x ≡ true → count_before p j xs < count_all p xs
count_within p j xs x e passes =
    let up = count_up p j xs x e in
    let one = ap truth_of passes in
    let r = count_most p (suc j) xs in
    omega (arith, up, one, r)

-- ---- places from counts

pub place_less : {X : Type 0} (p : X → Bool) (j k : ℕ) (xs : List X) → count_before p j xs < count_before p k xs → j < k
place_less p j k xs h = elim (cases_lt j k) [ inl lt ↦ lt | inr ge ↦ absurd (let r = count_rises p k j xs ge in omega (arith, r, h)) ]

-- up to an item that passes
pub place_most : {X : Type 0} (p : X → Bool) (j k : ℕ) (xs : List X) (y : X) → slice_get xs k ≡ Some y → p y ≡ true → count_before p j xs ≤ count_before p k xs → j ≤ k
place_most p j k xs y e passes h = elim (cases_lt k j) [ inl lt ↦ absurd (let r = count_behind p k j xs y e passes lt in omega (arith, r, h)) | inr ge ↦ ge ]

-- the item that passes behind so many others
pub record Chosen (X : Type 0) (p : X → Bool) (xs : List X) (k : ℕ) : Type 0 where
  pub place : ℕ
  pub item : X
  pub there : slice_get xs place ≡ Some item
  pub passes : p item ≡ true
  pub count : count_before p place xs ≡ k

choose_one : {X : Type 0} (p : X → Bool) (x : X) (xs : List X) → ((m : ℕ) → m < count_all p xs → Chosen X p xs m) → (b : Bool) → p x ≡ b → (k : ℕ) → k < truth_of b + count_all p xs → Chosen X p (x ∷ xs) k
choose_one p x xs again true e zero h = record { place = 0; item = x; there = refl; passes = e; count = refl }
choose_one p x xs again true e (suc k) h =
    let r = again k (omega arith) in
    let one = ap truth_of e in
    let count = r.count in
    record { place = suc r.place; item = r.item; there = r.there; passes = r.passes; count = omega (arith, one, count) }
choose_one p x xs again false e k h =
    let r = again k (omega arith) in
    let none = ap truth_of e in
    let count = r.count in
    record { place = suc r.place; item = r.item; there = r.there; passes = r.passes; count = omega (arith, none, count) }

pub choose : {X : Type 0} (p : X → Bool) (xs : List X) (k : ℕ) → k < count_all p xs → Chosen X p xs k
choose p [] k h = absurd (omega arith)
choose p (x ∷ xs) k h = choose_one p x xs (λ m g. choose p xs m g) (p x) refl k h

-- ---- joined lists

pub count_past : {X : Type 0} (p : X → Bool) (xs ys : List X) (l m : ℕ) → l ≡ length xs + m → count_before p l (xs ++ ys) ≡ count_all p xs + count_before p m ys
count_past p [] ys l m e = let same : l ≡ m = omega (arith, e) in let r = ap (λ k. count_before p k ys) same in omega (arith, r)
count_past p (x ∷ xs) ys zero m e = absurd (omega arith)
count_past p (x ∷ xs) ys (suc l) m e = let r = count_past p xs ys l m (omega arith) in omega (arith, r)

pub count_front : {X : Type 0} (p : X → Bool) (xs ys : List X) (l : ℕ) → l ≤ length xs → count_before p l (xs ++ ys) ≡ count_before p l xs
count_front p [] ys zero h = refl
count_front p [] ys (suc l) h = absurd (omega arith)
count_front p (x ∷ xs) ys zero h = refl
count_front p (x ∷ xs) ys (suc l) h = ap (λ m. truth_of (p x) + m) (count_front p xs ys l (omega arith))

pub count_nothing : {X : Type 0} (p : X → Bool) (xs : List X) → ((k : ℕ) (x : X) → slice_get xs k ≡ Some x → p x ≡ false) → count_all p xs ≡ 0
count_nothing p [] h = refl
count_nothing p (x ∷ xs) h =
    let none = ap truth_of (h 0 x refl) in
    let r = count_nothing p xs (λ k y e. h (suc k) y e) in
    omega (arith, none, r)
