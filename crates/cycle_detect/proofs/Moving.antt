-- The order after the nodes between two places were parted: who stands where, and before whom.
use Rattle.std.proofs.Common.{◌≡◌, ℕ, zero, suc, ◌+◌, ◌-◌, ◌<◌, ◌≤◌, ◌⊎◌, inl, inr, Bool, true, false, not, List, [], ◌∷◌, ◌++◌, length, take, drop, refl, ap, sym, ◌∙◌, subst, arith}
use Rattle.std.specs.Prelude.{Some, Contains, slice_get, slice_range, filter}
use Rattle.std.proofs.lemmas.Bool.{cases_lt, cases_Bool, not-true, not_from_false, both_ways}
use Rattle.std.proofs.lemmas.List.{length-append, length-take}
use Rattle.std.proofs.lemmas.List.Edits.{split_between, length-between}
use Rattle.std.proofs.lemmas.List.Filters.{length-filter_both}
use Rattle.std.proofs.lemmas.Option.{none-some, same_Some, slice_get_within}
use Rattle.dg_base.proofs.Lists.{get_append_left, get_append_right, get_append_cases, contains_from_filter}
use Rattle.cycle_detect.specs.Orders.{IsPlace}
use Rattle.cycle_detect.proofs.Counting.{Distinct, distinct_parts, distinct_append, distinct_filter, contains_either, contains_left, contains_right}

-- ---- a filter

pub found_filter : (test : ℕ → Bool) (xs : List ℕ) (j y : ℕ) → slice_get xs j ≡ Some y → test y ≡ true → (l : ℕ) × (slice_get (filter test xs) l ≡ Some y)
found_filter test [] j y e t = absurd (none-some y e)
found_filter test (z ∷ zs) zero y e t =
    let same : z ≡ y = same_Some z y e in
    let holds : test z ≡ true = ap test same ∙ t in
    rw holds (0, ap (λ (k : ℕ). Some k) same)
found_filter test (z ∷ zs) (suc j) y e t =
    let rest = found_filter test zs j y e t in
    elim (cases_Bool (test z)) [
      | inl holds ↦ rw holds (suc rest.0, rest.1)
      | inr fails ↦ rw fails (rest.0, rest.1)
    ]

-- one item stands before another
abbrev pub Before : List ℕ → ℕ → ℕ → Type 0
Before xs x y = (k l : ℕ) × (k < l) × (slice_get xs k ≡ Some x) × (slice_get xs l ≡ Some y)

before_filter : (test : ℕ → Bool) (xs : List ℕ) (i j x y : ℕ) → slice_get xs i ≡ Some x → slice_get xs j ≡ Some y → i < j → test x ≡ true → test y ≡ true → Before (filter test xs) x y
before_filter test [] i j x y e f h s t = absurd (none-some x e)
before_filter test (z ∷ zs) i zero x y e f h s t = absurd (omega arith)
before_filter test (z ∷ zs) zero (suc j) x y e f h s t =
    let same : z ≡ x = same_Some z x e in
    let holds : test z ≡ true = ap test same ∙ s in
    let rest = found_filter test zs j y f t in
    rw holds (0, suc rest.0, omega arith, ap (λ (k : ℕ). Some k) same, rest.1)
before_filter test (z ∷ zs) (suc i) (suc j) x y e f h s t =
    let rest = before_filter test zs i j x y e f (omega arith) s t in
    elim (cases_Bool (test z)) [
      | inl holds ↦ rw holds (suc rest.0, suc rest.1, omega (arith, rest.2), rest.3, rest.4)
      | inr fails ↦ rw fails (rest.0, rest.1, rest.2, rest.3, rest.4)
    ]

-- ---- two groups

-- the items that pass, and behind them the others
abbrev pub part_by : (ℕ → Bool) → List ℕ → List ℕ
part_by test xs = filter test xs ++ filter (λ n. not (test n)) xs

pub length_parts : (test : ℕ → Bool) (xs : List ℕ) → length (part_by test xs) ≡ length xs
length_parts test xs = length-append (filter test xs) (filter (λ n. not (test n)) xs) ∙ length-filter_both test (λ n. not (test n)) (λ x. refl) xs

pub parts_from : (test : ℕ → Bool) (xs : List ℕ) (n : ℕ) → Contains (part_by test xs) n → Contains xs n
parts_from test xs n m =
    elim (contains_either (filter test xs) (filter (λ k. not (test k)) xs) n m) [
      | inl a ↦ (contains_from_filter test xs n a).0
      | inr b ↦ (contains_from_filter (λ k. not (test k)) xs n b).0
    ]

pub parts_distinct : (test : ℕ → Bool) (xs : List ℕ) → Distinct xs → Distinct (part_by test xs)
parts_distinct test xs d =
    distinct_append (filter test xs) (filter (λ k. not (test k)) xs) (distinct_filter test xs d) (distinct_filter (λ k. not (test k)) xs d)
    (λ n a b. both_ways (test n) (not-true (test n) (contains_from_filter (λ k. not (test k)) xs n b).1) (contains_from_filter test xs n a).1)

pub in_parts : (test : ℕ → Bool) (xs : List ℕ) (i x : ℕ) → slice_get xs i ≡ Some x → (k : ℕ) × (slice_get (part_by test xs) k ≡ Some x)
in_parts test xs i x e =
    elim (cases_Bool (test x)) [
      | inl holds ↦ let f = found_filter test xs i x e holds in (f.0, get_append_left (filter test xs) (filter (λ k. not (test k)) xs) f.0 x f.1)
      | inr fails ↦ let f = found_filter (λ k. not (test k)) xs i x e (not_from_false (test x) fails) in (length (filter test xs) + f.0, get_append_right (filter test xs) (filter (λ k. not (test k)) xs) (length (filter test xs) + f.0) f.0 refl ∙ f.1)
    ]

-- one that passes stands before one that does not
pub before_apart : (test : ℕ → Bool) (xs : List ℕ) (i j x y : ℕ) → slice_get xs i ≡ Some x → slice_get xs j ≡ Some y → test x ≡ true → test y ≡ false → Before (part_by test xs) x y
before_apart test xs i j x y e f s t =
    let a = found_filter test xs i x e s in
    let b = found_filter (λ k. not (test k)) xs j y f (not_from_false (test y) t) in
    let h = slice_get_within (filter test xs) a.0 x a.1 in (
      a.0,
      length (filter test xs) + b.0,
      omega arith,
      get_append_left (filter test xs) (filter (λ k. not (test k)) xs) a.0 x a.1,
      get_append_right (filter test xs) (filter (λ k. not (test k)) xs) (length (filter test xs) + b.0) b.0 refl ∙ b.1,
    )

-- two items keep their order, but where the later one alone passes
pub before_parts : (test : ℕ → Bool) (xs : List ℕ) (i j x y : ℕ) → slice_get xs i ≡ Some x → slice_get xs j ≡ Some y → i < j → (test y ≡ true → test x ≡ true) → Before (part_by test xs) x y
before_parts test xs i j x y e f h w =
    elim (cases_Bool (test y)) [
      | inl holds ↦
          let b = before_filter test xs i j x y e f h (w holds) holds in
          (b.0, b.1, b.2, get_append_left (filter test xs) (filter (λ k. not (test k)) xs) b.0 x b.3, get_append_left (filter test xs) (filter (λ k. not (test k)) xs) b.1 y b.4)
      | inr fails ↦
          elim (cases_Bool (test x)) [
            | inl holds ↦ before_apart test xs i j x y e f holds fails
            | inr off ↦
                let b = before_filter (λ k. not (test k)) xs i j x y e f h (not_from_false (test x) off) (not_from_false (test y) fails) in
                let n = length (filter test xs) in
                (n + b.0, n + b.1, omega (arith, b.2), get_append_right (filter test xs) (filter (λ k. not (test k)) xs) (n + b.0) b.0 refl ∙ b.3, get_append_right (filter test xs) (filter (λ k. not (test k)) xs) (n + b.1) b.1 refl ∙ b.4)
          ]
    ]

-- ---- a part of a list in another order

-- a place before, in or behind the part from `a` of `m` items, and the place of the same item afterwards
pub data Zone (a m i k : ℕ) : Type 0 where
  lies_below : i < a → k ≡ i → Zone a m i k
  lies_inside : a ≤ i → i < a + m → a ≤ k → k < a + m → Zone a m i k
  lies_above : a + m ≤ i → k ≡ i → Zone a m i k

pub zone_before : (a m i j k l : ℕ) → Zone a m i k → Zone a m j l → i < j → (a ≤ i → j < a + m → ⊥) → k < l
zone_before a m i j k l (lies_below p e) (lies_below q f) h fails = omega arith
zone_before a m i j k l (lies_below p e) (lies_inside q r s t) h fails = omega arith
zone_before a m i j k l (lies_below p e) (lies_above q f) h fails = omega arith
zone_before a m i j k l (lies_inside p q r s) (lies_below t f) h fails = omega arith
zone_before a m i j k l (lies_inside p q r s) (lies_inside t u v w) h fails = absurd (fails p u)
zone_before a m i j k l (lies_inside p q r s) (lies_above t f) h fails = omega arith
zone_before a m i j k l (lies_above p e) (lies_below q f) h fails = omega arith
zone_before a m i j k l (lies_above p e) (lies_inside q r s t) h fails = omega arith
zone_before a m i j k l (lies_above p e) (lies_above q f) h fails = omega arith

-- outside the part it stays
pub zone_out : (a m i k : ℕ) → Zone a m i k → (a ≤ i → i < a + m → ⊥) → k ≡ i
zone_out a m i k (lies_below p e) fails = e
zone_out a m i k (lies_inside p q r s) fails = absurd (fails p q)
zone_out a m i k (lies_above p e) fails = e

-- where an item stands after its part was put in another order
pub zone_of : (front mid other back : List ℕ) (i n : ℕ) → length other ≡ length mid → ((m : ℕ) → slice_get mid m ≡ Some n → (k : ℕ) × (slice_get other k ≡ Some n)) → slice_get (front ++ (mid ++ back)) i ≡ Some n → (k : ℕ) × (slice_get (front ++ (other ++ back)) k ≡ Some n) × Zone (length front) (length mid) i k
zone_of front mid other back i n long move e =
    elim (get_append_cases front (mid ++ back) i n e) [
      | inl f ↦ (i, get_append_left front (other ++ back) i n f, lies_below (slice_get_within front i n f) refl)
      | inr r ↦ elim (get_append_cases mid back r.0 n r.2) [
        | inl g ↦
            let k = move r.0 g in
            let here = get_append_left other back k.0 n k.1 in
            let a = slice_get_within other k.0 n k.1 in
            let b = slice_get_within mid r.0 n g in
            (length front + k.0, get_append_right front (other ++ back) (length front + k.0) k.0 refl ∙ here, lies_inside (omega (arith, r.1)) (omega (arith, r.1)) (omega arith) (omega arith))
        | inr q ↦
            let here = get_append_right other back (length other + q.0) q.0 refl ∙ q.2 in
            let place : i ≡ length front + (length other + q.0) = omega (arith, r.1, q.1) in
            (i, get_append_right front (other ++ back) i (length other + q.0) place ∙ here, lies_above (omega (arith, r.1, q.1)) refl)
      ]
    ]

-- an item of the part
pub zone_mid : (front mid back : List ℕ) (i n : ℕ) → slice_get (front ++ (mid ++ back)) i ≡ Some n → length front ≤ i → i < length front + length mid → (m : ℕ) × (i ≡ length front + m) × (slice_get mid m ≡ Some n)
zone_mid front mid back i n e low high =
    elim (get_append_cases front (mid ++ back) i n e) [
      | inl f ↦ absurd (omega (arith, slice_get_within front i n f))
      | inr r ↦ elim (get_append_cases mid back r.0 n r.2) [
        | inl g ↦ (r.0, r.1, g)
        | inr q ↦ absurd (omega (arith, r.1, q.1))
      ]
    ]

pub mid_zone : (front mid back : List ℕ) (m n : ℕ) → slice_get mid m ≡ Some n → slice_get (front ++ (mid ++ back)) (length front + m) ≡ Some n
mid_zone front mid back m n e = get_append_right front (mid ++ back) (length front + m) m refl ∙ get_append_left mid back m n e

-- a pair that stood in order stands in order
pub before_whole : (test : ℕ → Bool) (front mid back : List ℕ) (i j x y : ℕ) → slice_get (front ++ (mid ++ back)) i ≡ Some x → slice_get (front ++ (mid ++ back)) j ≡ Some y → i < j → (length front ≤ i → test y ≡ true → test x ≡ true) → Before (front ++ (part_by test mid ++ back)) x y
before_whole test front mid back i j x y e f h w =
    let a = zone_of front mid (part_by test mid) back i x (length_parts test mid) (λ m g. in_parts test mid m x g) e in
    let b = zone_of front mid (part_by test mid) back j y (length_parts test mid) (λ m g. in_parts test mid m y g) f in
    elim (split i j) [
      | inl both ↦
          let p = zone_mid front mid back i x e both.0 (omega (arith, both.1)) in
          let q = zone_mid front mid back j y f (omega (arith, both.0)) both.1 in
          let c = before_parts test mid p.0 q.0 x y p.2 q.2 (omega (arith, p.1, q.1)) (w both.0) in
          (length front + c.0, length front + c.1, omega (arith, c.2), mid_zone front (part_by test mid) back c.0 x c.3, mid_zone front (part_by test mid) back c.1 y c.4)
      | inr fails ↦ (a.0, b.0, zone_before (length front) (length mid) i j a.0 b.0 a.2 b.2 h fails, a.1, b.1)
    ]
  where
    split : (i j : ℕ) → ((length front ≤ i) × (j < length front + length mid)) ⊎ (length front ≤ i → j < length front + length mid → ⊥)
    split i j =
        elim (cases_lt j (length front + length mid)) [
          | inl p ↦ elim (cases_lt i (length front)) [ inl q ↦ inr (λ r s. omega arith) | inr q ↦ inl (q, p) ]
          | inr p ↦ inr (λ r s. omega arith)
        ]

-- nothing stands twice
pub whole_distinct : (test : ℕ → Bool) (front mid back : List ℕ) → Distinct (front ++ (mid ++ back)) → Distinct (front ++ (part_by test mid ++ back))
whole_distinct test front mid back d =
    let a = distinct_parts front (mid ++ back) d in
    let b = distinct_parts mid back a.1 in
    let inner = distinct_append (part_by test mid) back (parts_distinct test mid b.0) b.1 (λ n p q. b.2 n (parts_from test mid n p) q) in
    distinct_append front (part_by test mid ++ back) a.0 inner (λ n p q. a.2 n p (elim (contains_either (part_by test mid) back n q) [ inl r ↦ contains_left mid back n (parts_from test mid n r) | inr r ↦ contains_right mid back n r ]))

-- who stands there stood there
pub whole_from : (test : ℕ → Bool) (front mid back : List ℕ) (n : ℕ) → Contains (front ++ (part_by test mid ++ back)) n → Contains (front ++ (mid ++ back)) n
whole_from test front mid back n m =
    elim (contains_either front (part_by test mid ++ back) n m) [
      | inl a ↦ contains_left front (mid ++ back) n a
      | inr b ↦ contains_right front (mid ++ back) n (elim (contains_either (part_by test mid) back n b) [ inl r ↦ contains_left mid back n (parts_from test mid n r) | inr r ↦ contains_right mid back n r ])
    ]

pub whole_long : (test : ℕ → Bool) (front mid back : List ℕ) → length (front ++ (part_by test mid ++ back)) ≡ length (front ++ (mid ++ back))
whole_long test front mid back =
    omega (arith, length-append front (part_by test mid ++ back), length-append front (mid ++ back), length-append (part_by test mid) back, length-append mid back, length_parts test mid)

-- ---- the part between two places

pub split_three : (order : List ℕ) (low high : ℕ) → low ≤ high → order ≡ take low order ++ (slice_range order low (high + 1) ++ drop (high + 1) order)
split_three order low high h = split_between order low (high + 1) (omega arith)

pub front_long : (order : List ℕ) (low high : ℕ) → low ≤ high → high < length order → length (take low order) ≡ low
front_long order low high h k = omega (arith, length-take low order)

pub mid_long : (order : List ℕ) (low high : ℕ) → low ≤ high → high < length order → length (slice_range order low (high + 1)) ≡ high + 1 - low
mid_long order low high h k = length-between order low (high + 1) (omega arith)

-- who stands between the places
pub mid_has : (order : List ℕ) (low high k n : ℕ) → low ≤ k → k ≤ high → high < length order → IsPlace order n k → (m : ℕ) × (k ≡ low + m) × (slice_get (slice_range order low (high + 1)) m ≡ Some n)
mid_has order low high k n a b c e =
    let whole = subst (λ (z : List ℕ). slice_get z k ≡ Some n) (split_three order low high (omega arith)) e in
    let front = front_long order low high (omega arith) c in
    let mid = mid_long order low high (omega arith) c in
    let r = zone_mid (take low order) (slice_range order low (high + 1)) (drop (high + 1) order) k n whole (omega arith) (omega arith) in
    (r.0, omega (arith, r.1), r.2)

pub mid_from : (order : List ℕ) (low high m n : ℕ) → low ≤ high → high < length order → slice_get (slice_range order low (high + 1)) m ≡ Some n → (low + m ≤ high) × IsPlace order n (low + m)
mid_from order low high m n a c e =
    let whole = mid_zone (take low order) (slice_range order low (high + 1)) (drop (high + 1) order) m n e in
    let front = front_long order low high a c in
    let mid = mid_long order low high a c in
    let h = slice_get_within (slice_range order low (high + 1)) m n e in
    let there = subst (λ (k : ℕ). slice_get (take low order ++ (slice_range order low (high + 1) ++ drop (high + 1) order)) (k + m) ≡ Some n) front whole in
    (omega arith, subst (λ (z : List ℕ). slice_get z (low + m) ≡ Some n) (sym (split_three order low high a)) there)
