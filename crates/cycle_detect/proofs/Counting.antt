-- Lists in which no item stands twice, and counts of what belongs to their items.
use Rattle.std.proofs.Common.{◌≡◌, ℕ, zero, suc, ◌+◌, ◌≤◌, ◌⊎◌, inl, inr, Bool, true, false, cond, List, [], ◌∷◌, ◌++◌, map, length, refl, ap, sym, ◌∙◌, subst, arith, eqb}
use Rattle.std.specs.Prelude.{Contains, slice_get, filter, count_by, sum_by, Some, ◌==◌}
use Rattle.std.proofs.lemmas.Bool.{cases_Bool, eqb-true, eq-eqb, ne_eqb, cond-true, cond-false}
use Rattle.std.proofs.lemmas.Option.{none-some, same_Some}
use Rattle.std.proofs.lemmas.List.Sums.{sum_by-cons, count_by-le-length}
use Rattle.dg_base.proofs.Lists.{contains_nothing, contains_head, contains_tail, contains_cases, place_of, contains_place, contains_from_filter}

-- no item of the list stands twice
abbrev pub Distinct : {X : Type 0} → List X → Type 0
Distinct [] = Unit {0}
Distinct (x ∷ xs) = (¬ Contains xs x) × Distinct xs

-- each item has one place
abbrev pub HasOnce : {X : Type 0} → List X → Type 0
HasOnce {X} xs = (i j : ℕ) (x : X) → slice_get xs i ≡ Some x → slice_get xs j ≡ Some x → i ≡ j

pub distinct_once : {X : Type 0} (xs : List X) → HasOnce xs → Distinct xs
distinct_once [] h = tt
distinct_once (x ∷ xs) h =
    (λ m. let p = place_of xs x m in let e : 0 ≡ suc p.0 = h 0 (suc p.0) x refl p.1 in absurd (omega arith), distinct_once xs (λ i j y a b. let e : suc i ≡ suc j = h (suc i) (suc j) y a b in omega arith))

pub once_distinct : {X : Type 0} (xs : List X) → Distinct xs → HasOnce xs
once_distinct [] d i j x a b = absurd (none-some x a)
once_distinct (z ∷ zs) d zero zero x a b = refl
once_distinct (z ∷ zs) d zero (suc j) x a b = absurd (d.0 (subst (λ y. Contains zs y) (sym (same_Some z x a)) (contains_place zs j x b)))
once_distinct (z ∷ zs) d (suc i) zero x a b = absurd (d.0 (subst (λ y. Contains zs y) (sym (same_Some z x b)) (contains_place zs i x a)))
once_distinct (z ∷ zs) d (suc i) (suc j) x a b = ap suc (once_distinct zs d.1 i j x a b)

pub contains_left : {X : Type 0} (xs ys : List X) (x : X) → Contains xs x → Contains (xs ++ ys) x
contains_left [] ys x m = absurd (contains_nothing x m)
contains_left (z ∷ zs) ys x m =
    elim (contains_cases z x zs m) [ inl e ↦ subst (λ y. Contains (z ∷ (zs ++ ys)) y) (sym e) (contains_head z (zs ++ ys)) | inr h ↦ contains_tail z x (zs ++ ys) (contains_left zs ys x h) ]

pub contains_right : {X : Type 0} (xs ys : List X) (x : X) → Contains ys x → Contains (xs ++ ys) x
contains_right [] ys x m = m
contains_right (z ∷ zs) ys x m = contains_tail z x (zs ++ ys) (contains_right zs ys x m)

pub contains_either : {X : Type 0} (xs ys : List X) (x : X) → Contains (xs ++ ys) x → Contains xs x ⊎ Contains ys x
contains_either [] ys x m = inr m
contains_either (z ∷ zs) ys x m =
    elim (contains_cases z x (zs ++ ys) m) [
      | inl e ↦ inl (subst (λ y. Contains (z ∷ zs) y) (sym e) (contains_head z zs))
      | inr h ↦ elim (contains_either zs ys x h) [ inl a ↦ inl (contains_tail z x zs a) | inr b ↦ inr b ]
    ]

-- the parts of such a list are such lists, and have no item in common
pub distinct_parts : {X : Type 0} (xs ys : List X) → Distinct (xs ++ ys) → Distinct xs × Distinct ys × ((x : X) → Contains xs x → Contains ys x → ⊥)
distinct_parts [] ys d = (tt, d, λ x a b. contains_nothing x a)
distinct_parts (z ∷ zs) ys d =
    let rest = distinct_parts zs ys d.1 in (
      (λ m. d.0 (contains_left zs ys z m), rest.0),
      rest.1,
      λ x a b. elim (contains_cases z x zs a) [ inl e ↦ d.0 (subst (λ y. Contains (zs ++ ys) y) e (contains_right zs ys x b)) | inr h ↦ rest.2 x h b ],
    )

pub distinct_append : {X : Type 0} (xs ys : List X) → Distinct xs → Distinct ys → ((x : X) → Contains xs x → Contains ys x → ⊥) → Distinct (xs ++ ys)
distinct_append [] ys d e apart = e
distinct_append (z ∷ zs) ys d e apart =
    (λ m. elim (contains_either zs ys z m) [ inl a ↦ d.0 a | inr b ↦ apart z (contains_head z zs) b ], distinct_append zs ys d.1 e (λ x a b. apart x (contains_tail z x zs a) b))

pub distinct_filter : {X : Type 0} (test : X → Bool) (xs : List X) → Distinct xs → Distinct (filter test xs)
distinct_filter test [] d = tt
distinct_filter test (z ∷ zs) d =
    elim (cases_Bool (test z)) [
      | inl holds ↦ rw holds (λ m. d.0 (contains_from_filter test zs z m).0, distinct_filter test zs d.1)
      | inr fails ↦ rw fails (distinct_filter test zs d.1)
    ]

-- how often a number stands in such a list
count_none : (ns : List ℕ) (m : ℕ) → ¬ Contains ns m → count_by (λ n. m == n) ns ≡ 0
count_none [] m fails = refl
count_none (n ∷ ns) m fails =
    let other : eqb m n ≡ false = ne_eqb m n (λ e. fails (subst (λ y. Contains (n ∷ ns) y) (sym e) (contains_head n ns))) in
    let rest = count_none ns m (λ h. fails (contains_tail n m ns h)) in
    omega (arith, sum_by-cons (λ k. cond (m == k) 1 0) n ns, cond-false {A = ℕ} (eqb m n) 1 0 other, rest)

count_once : (ns : List ℕ) (m : ℕ) → Distinct ns → count_by (λ n. m == n) ns ≤ 1
count_once [] m d = omega arith
count_once (n ∷ ns) m d =
    elim (cases_Bool (eqb m n)) [
      | inl same ↦ let none = count_none ns m (λ h. d.0 (subst (λ y. Contains ns y) (eqb-true m n same) h)) in omega (arith, sum_by-cons (λ k. cond (m == k) 1 0) n ns, cond-true {A = ℕ} (eqb m n) 1 0 same, none)
      | inr other ↦ let rest = count_once ns m d.1 in omega (arith, sum_by-cons (λ k. cond (m == k) 1 0) n ns, cond-false {A = ℕ} (eqb m n) 1 0 other, rest)
    ]

-- a number of the list is counted
count_some : (ns : List ℕ) (m : ℕ) → Contains ns m → 1 ≤ count_by (λ n. n == m) ns
count_some [] m h = absurd (contains_nothing m h)
count_some (n ∷ ns) m h =
    elim (contains_cases n m ns h) [
      | inl e ↦ omega (arith, sum_by-cons (λ k. cond (k == m) 1 0) n ns, cond-true {A = ℕ} (eqb n m) 1 0 (eq-eqb n m (sym e)))
      | inr r ↦ let rest = count_some ns m r in omega (arith, sum_by-cons (λ k. cond (k == m) 1 0) n ns, rest)
    ]

sum_none : {X : Type 0} (ns : List X) → sum_by (λ n. 0) ns ≡ 0
sum_none [] = refl
sum_none {X} (n ∷ ns) = let rest = sum_none ns in omega (arith, sum_by-cons (λ (k : X). 0) n ns, rest)

-- one thing more: it belongs to the items that are its key
sum_step : {X : Type 0} (key : X → ℕ) (x : X) (xs : List X) (ns : List ℕ) → sum_by (λ n. count_by (λ y. key y == n) (x ∷ xs)) ns ≡ count_by (λ n. key x == n) ns + sum_by (λ n. count_by (λ y. key y == n) xs) ns
sum_step key x xs [] = refl
sum_step key x xs (n ∷ ns) =
    let rest = sum_step key x xs ns in
    let a = sum_by-cons (λ n. count_by (λ y. key y == n) (x ∷ xs)) n ns in
    let b = sum_by-cons (λ n. count_by (λ y. key y == n) xs) n ns in
    let c = sum_by-cons (λ y. cond (key y == n) 1 0) x xs in
    let d = sum_by-cons (λ k. cond (key x == k) 1 0) n ns in
    omega (arith, rest, a, b, c, d)

-- what belongs to the items is counted once: so it is no more than what passes a test which all of it passes
pub spread : {X : Type 0} (key : X → ℕ) (test : X → Bool) (xs : List X) (ns : List ℕ) → Distinct ns → ((x : X) → Contains ns (key x) → test x ≡ true) → sum_by (λ n. count_by (λ y. key y == n) xs) ns ≤ count_by test xs
spread key test [] ns d h = let z = sum_none ns in omega (arith, z)
spread key test (x ∷ xs) ns d h =
    let rest = spread key test xs ns d h in
    let a = sum_step key x xs ns in
    let b = sum_by-cons (λ y. cond (test y) 1 0) x xs in
    elim (cases_Bool (test x)) [
      | inl holds ↦ let c = count_once ns (key x) d in omega (arith, rest, a, b, c, cond-true {A = ℕ} (test x) 1 0 holds)
      | inr fails ↦ let c = count_none ns (key x) (λ m. let holds : test x ≡ true = h x m in let bad : true ≡ false = sym holds ∙ fails in cc) in omega (arith, rest, a, b, c, cond-false {A = ℕ} (test x) 1 0 fails)
    ]

length_sum : (xs : List ℕ) (ns : List ℕ) → ((n : ℕ) → Contains ns n → Contains xs n) → length ns ≤ sum_by (λ n. count_by (λ y. y == n) xs) ns
length_sum xs [] h = omega arith
length_sum xs (n ∷ ns) h =
    let rest = length_sum xs ns (λ m k. h m (contains_tail n m ns k)) in
    omega (arith, rest, sum_by-cons (λ n. count_by (λ y. y == n) xs) n ns, count_some xs n (h n (contains_head n ns)))

-- a list without repeats of what another has is no longer
pub no_longer : (ns xs : List ℕ) → Distinct ns → ((n : ℕ) → Contains ns n → Contains xs n) → length ns ≤ length xs
no_longer ns xs d h =
    let a = length_sum xs ns h in
    let b = spread (λ y. y) (λ y. true) xs ns d (λ x m. refl) in
    let c = count_by-le-length (λ y. true) xs in
    omega (arith, a, b, c)

-- a sum over images
pub sum_map : {X Y : Type 0} (f : Y → ℕ) (g : X → Y) (xs : List X) → sum_by f (map g xs) ≡ sum_by (λ x. f (g x)) xs
sum_map f g [] = refl
sum_map f g (x ∷ xs) =
    let rest = sum_map f g xs in
    omega (arith, rest, sum_by-cons f (g x) (map g xs), sum_by-cons (λ x. f (g x)) x xs)
