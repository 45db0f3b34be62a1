-- Lists by their places and by what they contain: what std lacks, for every crate.
use Rattle.std.proofs.Common.{◌≡◌, ◌≢◌, ℕ, zero, suc, ◌+◌, ◌<◌, ◌⊎◌, inl, inr, Bool, true, false, List, [], ◌∷◌, ◌++◌, map, length, set, refl, ap, sym, ◌∙◌, subst, arith}
use Rattle.std.specs.Prelude.{Option, Some, None, Contains, slice_get, filter}
use Rattle.std.specs.List.{list_all}
use Rattle.std.specs.Option.{option_map}
use Rattle.std.proofs.lemmas.Bool.{and_from, and_parts, cases_eq}
use Rattle.std.proofs.lemmas.Option.{none-some, same_Some, slice_get_within}

-- ---- an answer of a look-up

-- nothing is not something
pub not_none : {A : Type 0} (o : Option A) (x : A) → o ≡ None → o ≡ Some x → ⊥
not_none o x e h = cc

-- an answer is one element
pub one_answer : {A : Type 0} (o : Option A) (x y : A) → o ≡ Some x → o ≡ Some y → x ≡ y
one_answer o x y e h = cc

-- where an image is, its element is
pub from_option_map : {A B : Type 0} (f : A → B) (o : Option A) (y : B) → option_map f o ≡ Some y → (x : A) × (o ≡ Some x) × (f x ≡ y)
from_option_map f None y e = absurd (none-some y e)
from_option_map f (Some x) y e = (x, refl, same_Some (f x) y e)

-- ---- places of a list

-- the empty list has nothing at any place
pub get_nothing : {X : Type 0} (k : ℕ) (x : X) → slice_get [] k ≡ Some x → ⊥
get_nothing k x e = none-some x e

-- each place within a list has an element
pub get_there : {X : Type 0} (xs : List X) (k : ℕ) → k < length xs → (x : X) × (slice_get xs k ≡ Some x)
get_there [] k h = absurd (omega arith)
get_there (x ∷ xs) zero h = (x, refl)
get_there (x ∷ xs) (suc k) h = get_there xs k (omega arith)

-- ---- a list behind another

-- what stands in the first list stands there in both
pub get_append_left : {X : Type 0} (xs ys : List X) (k : ℕ) (x : X) → slice_get xs k ≡ Some x → slice_get (xs ++ ys) k ≡ Some x
get_append_left [] ys k x e = absurd (none-some x e)
get_append_left (z ∷ zs) ys zero x e = e
get_append_left (z ∷ zs) ys (suc k) x e = get_append_left zs ys k x e

-- a place within the first list
pub get_append_front : {X : Type 0} (xs ys : List X) (k : ℕ) → k < length xs → slice_get (xs ++ ys) k ≡ slice_get xs k
get_append_front xs ys k h = let r = get_there xs k h in get_append_left xs ys k r.0 r.1 ∙ sym r.1

-- a place behind the first list
pub get_append_right : {X : Type 0} (xs ys : List X) (k m : ℕ) → k ≡ length xs + m → slice_get (xs ++ ys) k ≡ slice_get ys m
get_append_right [] ys k m e = let same : k ≡ m = omega arith in ap (λ (n : ℕ). slice_get ys n) same
get_append_right (z ∷ zs) ys zero m e = absurd (omega arith)
get_append_right (z ∷ zs) ys (suc k) m e = get_append_right zs ys k m (omega arith)

-- what stands in both lists stands in the first or in the second
pub get_append_cases : {X : Type 0} (xs ys : List X) (k : ℕ) (x : X) → slice_get (xs ++ ys) k ≡ Some x → (slice_get xs k ≡ Some x) ⊎ ((m : ℕ) × (k ≡ length xs + m) × (slice_get ys m ≡ Some x))
get_append_cases [] ys k x e = inr (k, omega arith, e)
get_append_cases (z ∷ zs) ys zero x e = inl e
get_append_cases (z ∷ zs) ys (suc k) x e =
    elim (get_append_cases zs ys k x e) [
      | inl h ↦ inl h
      | inr r ↦ let same : suc k ≡ suc (length zs) + r.0 = omega (arith, r.1) in inr (r.0, same, r.2)
    ]

-- what stands in a list with one more element
pub get_push_cases : {X : Type 0} (xs : List X) (y : X) (k : ℕ) (x : X) → slice_get (xs ++ y ∷ []) k ≡ Some x → (slice_get xs k ≡ Some x) ⊎ ((k ≡ length xs) × (x ≡ y))
get_push_cases [] y zero x e = inr (refl, sym (same_Some y x e))
get_push_cases [] y (suc k) x e = absurd (none-some x e)
get_push_cases (z ∷ zs) y zero x e = inl e
get_push_cases (z ∷ zs) y (suc k) x e = elim (get_push_cases zs y k x e) [ inl h ↦ inl h | inr r ↦ inr (ap suc r.0, r.1) ]

-- the element that was added last
pub get_push_last : {X : Type 0} (xs : List X) (y : X) → slice_get (xs ++ y ∷ []) (length xs) ≡ Some y
get_push_last [] y = refl
get_push_last (z ∷ zs) y = get_push_last zs y

-- ---- images

pub get_map : {X Y : Type 0} (f : X → Y) (xs : List X) (k : ℕ) (x : X) → slice_get xs k ≡ Some x → slice_get (map f xs) k ≡ Some (f x)
get_map f [] k x e = absurd (none-some x e)
get_map f (z ∷ zs) zero x e = ap (λ y. Some (f y)) (same_Some z x e)
get_map f (z ∷ zs) (suc k) x e = get_map f zs k x e

-- what stands at a place of the images is the image of what stands there
pub get_from_map : {X Y : Type 0} (f : X → Y) (xs : List X) (k : ℕ) (y : Y) → slice_get (map f xs) k ≡ Some y → (x : X) × (slice_get xs k ≡ Some x) × (f x ≡ y)
get_from_map f [] k y e = absurd (none-some y e)
get_from_map f (z ∷ zs) zero y e = (z, refl, same_Some (f z) y e)
get_from_map f (z ∷ zs) (suc k) y e = get_from_map f zs k y e

-- ---- a list in which one place was written

pub get_set_same : {X : Type 0} (xs : List X) (i : ℕ) (y : X) → i < length xs → slice_get (set xs i y) i ≡ Some y
get_set_same [] i y h = absurd (omega arith)
get_set_same (z ∷ zs) zero y h = refl
get_set_same (z ∷ zs) (suc i) y h = get_set_same zs i y (omega arith)

pub get_set_other : {X : Type 0} (xs : List X) (i j : ℕ) (y : X) → j ≢ i → slice_get (set xs i y) j ≡ slice_get xs j
get_set_other [] i j y n = refl
get_set_other (z ∷ zs) zero zero y n = absurd (n refl)
get_set_other (z ∷ zs) zero (suc j) y n = refl
get_set_other (z ∷ zs) (suc i) zero y n = refl
get_set_other (z ∷ zs) (suc i) (suc j) y n = get_set_other zs i j y (λ e. n (ap suc e))

pub get_set_cases : {X : Type 0} (xs : List X) (i j : ℕ) (y x : X) → slice_get (set xs i y) j ≡ Some x → ((j ≡ i) × (x ≡ y)) ⊎ ((j ≢ i) × (slice_get xs j ≡ Some x))
get_set_cases [] i j y x e = absurd (none-some x e)
get_set_cases (z ∷ zs) zero zero y x e = inl (refl, sym (same_Some y x e))
get_set_cases (z ∷ zs) zero (suc j) y x e = inr ((λ h. omega arith), e)
get_set_cases (z ∷ zs) (suc i) zero y x e = inr ((λ h. omega arith), e)
get_set_cases (z ∷ zs) (suc i) (suc j) y x e =
    elim (get_set_cases zs i j y x e) [ inl r ↦ inl (ap suc r.0, r.1) | inr r ↦ inr ((λ h. r.0 (omega arith)), r.1) ]

-- ---- what a list contains

pub contains_nothing : {X : Type 0} (x : X) → Contains [] x → ⊥
contains_nothing x (k, h, e) = omega arith

pub contains_head : {X : Type 0} (x : X) (xs : List X) → Contains (x ∷ xs) x
contains_head x xs = (0, omega arith, refl)

pub contains_tail : {X : Type 0} (x y : X) (xs : List X) → Contains xs y → Contains (x ∷ xs) y
contains_tail x y xs (k, h, e) = (suc k, omega arith, e)

-- an element is the first or behind it
pub contains_cases : {X : Type 0} (x y : X) (xs : List X) → Contains (x ∷ xs) y → (y ≡ x) ⊎ Contains xs y
contains_cases x y xs (zero, _, e) = inl (sym e)
contains_cases x y xs (suc k, h, e) = inr (k, omega arith, e)

-- an element has a place
pub place_of : {X : Type 0} (xs : List X) (x : X) → Contains xs x → (k : ℕ) × (slice_get xs k ≡ Some x)
place_of [] x h = absurd (contains_nothing x h)
place_of (y ∷ ys) x h =
    elim (contains_cases y x ys h) [
      | inl e ↦ (0, ap Some (sym e))
      | inr m ↦ let r = place_of ys x m in (suc r.0, r.1)
    ]

-- what stands at a place is an element
pub contains_place : {X : Type 0} (xs : List X) (k : ℕ) (x : X) → slice_get xs k ≡ Some x → Contains xs x
contains_place [] k x e = absurd (none-some x e)
contains_place (y ∷ ys) zero x e = subst (λ z. Contains (y ∷ ys) z) (same_Some y x e) (contains_head y ys)
contains_place (y ∷ ys) (suc k) x e = contains_tail y x ys (contains_place ys k x e)

pub contains_map : {X Y : Type 0} (f : X → Y) (xs : List X) (x : X) → Contains xs x → Contains (map f xs) (f x)
contains_map f xs x h = let r = place_of xs x h in contains_place (map f xs) r.0 (f x) (get_map f xs r.0 x r.1)

-- an element of the images is the image of an element
pub contains_from_map : {X Y : Type 0} (f : X → Y) (xs : List X) (y : Y) → Contains (map f xs) y → (x : X) × Contains xs x × (y ≡ f x)
contains_from_map f xs y h =
    let r = place_of (map f xs) y h in
    let s = get_from_map f xs r.0 y r.1 in
    (s.0, contains_place xs r.0 s.0 s.1, sym s.2)

-- what a test keeps was there, and passes
pub contains_from_filter : {X : Type 0} (test : X → Bool) (xs : List X) (x : X) → Contains (filter test xs) x → Contains xs x × (test x ≡ true)
contains_from_filter test [] x h = absurd (contains_nothing x h)
contains_from_filter test (y ∷ ys) x h = by_test (test y) refl h (contains_from_filter test ys x)
  where
    by_test : (b : Bool) → test y ≡ b → Contains (filter test (y ∷ ys)) x → (Contains (filter test ys) x → Contains ys x × (test x ≡ true)) → Contains (y ∷ ys) x × (test x ≡ true)
    by_test true q h later =
        elim (contains_cases y x (filter test ys) (rw q at h)) [
          | inl e ↦ (subst (λ z. Contains (y ∷ ys) z) (sym e) (contains_head y ys), cc)
          | inr m ↦ let r = later m in (contains_tail y x ys r.0, r.1)
        ]
    by_test false q h later = let r = later (rw q at h) in (contains_tail y x ys r.0, r.1)

-- ---- a test that each element passes

pub list_all_at : {A : Type 0} (f : A → Bool) (l : List A) → list_all f l ≡ true → (k : ℕ) (a : A) → slice_get l k ≡ Some a → f a ≡ true
list_all_at f [] t k a e = absurd (none-some a e)
list_all_at f (b ∷ l) t zero a e = subst (λ z. f z ≡ true) (same_Some b a e) (and_parts (f b) (list_all f l) t).0
list_all_at f (b ∷ l) t (suc k) a e = list_all_at f l (and_parts (f b) (list_all f l) t).1 k a e

pub list_all_from : {A : Type 0} (f : A → Bool) (l : List A) → ((k : ℕ) (a : A) → slice_get l k ≡ Some a → f a ≡ true) → list_all f l ≡ true
list_all_from f [] h = refl
list_all_from f (a ∷ l) h = and_from (f a) (list_all f l) (h 0 a refl) (list_all_from f l (λ k b e. h (suc k) b e))
