-- Numbers in the order of a relation.
use Rattle.std.proofs.Common.{◌≡◌, ◌≢◌, ℕ, zero, suc, ◌<◌, ◌⊎◌, inl, inr, Bool, true, false, List, [], ◌∷◌, ◌++◌, length, refl, ap, sym, ◌∙◌, subst, arith}
use Rattle.std.specs.Prelude.{Some, slice_get, Contains, AllPairs}
use Rattle.std.proofs.lemmas.List.Elements.{Contains-append_cases}
use Rattle.std.proofs.lemmas.Option.{same_Some, slice_get_within, get_or_from_slice_get}
use Rattle.dg_base.proofs.Lists.{contains_head, contains_tail, contains_cases, contains_nothing, contains_place, place_of, get_nothing}

-- ---- numbers

before_or_at : (m k : ℕ) → m < suc k → (m < k) ⊎ (m ≡ k)
before_or_at m k h = grind arith

pub which_first : (i j : ℕ) → (i < j) ⊎ ((i ≡ j) ⊎ (j < i))
which_first i j = grind arith

pub same_or_not : (x y : ℕ) → (x ≡ y) ⊎ (x ≢ y)
same_or_not x y = elim (which_first x y) [
  | inl below ↦ inr (λ same. omega arith)
  | inr rest ↦ elim rest [ inl same ↦ inl same | inr above ↦ inr (λ same. omega arith) ]
]

-- ---- sorted lists

-- each stands before all behind it
abbrev pub AreSorted : {X : Type 0} → (X → X → Type 0) → List X → Type 0
AreSorted R [] = Unit {0}
AreSorted {X} R (x ∷ xs) = ((y : X) → Contains xs y → R x y) × AreSorted R xs

pub sorted_at : (R : ℕ → ℕ → Type 0) (ns : List ℕ) → AreSorted R ns → (i j x y : ℕ) → i < j → slice_get ns i ≡ Some x → slice_get ns j ≡ Some y → R x y
sorted_at R [] sorted i j x y below at there = absurd (get_nothing i x at)
sorted_at R (z ∷ zs) sorted zero zero x y below at there = absurd (omega arith)
sorted_at R (z ∷ zs) sorted (suc i) zero x y below at there = absurd (omega arith)
sorted_at R (z ∷ zs) sorted zero (suc j) x y below at there = subst (λ (w : ℕ). R w y) (same_Some z x at) (sorted.0 y (contains_place zs j y there))
sorted_at R (z ∷ zs) sorted (suc i) (suc j) x y below at there = sorted_at R zs sorted.1 i j x y (omega arith) at there

pub sorted_from : (R : ℕ → ℕ → Type 0) (ns : List ℕ) → ((i j x y : ℕ) → i < j → slice_get ns i ≡ Some x → slice_get ns j ≡ Some y → R x y) → AreSorted R ns
sorted_from R [] at = tt
sorted_from R (z ∷ zs) at = (
  (λ y h. let r = place_of zs y h in at 0 (suc r.0) z y (omega arith) refl r.1),
  sorted_from R zs (λ i j x y below from to. at (suc i) (suc j) x y (omega arith) from to),
)

-- ---- lines

-- of two that are wanted one comes before the other, and before all that comes behind the other
pub record IsLinear (P : ℕ → Type 0) (R : ℕ → ℕ → Type 0) : Type 0 where
  pub either : (x y : ℕ) → P x → P y → x ≢ y → R x y ⊎ R y x
  pub onward : (x y z : ℕ) → P x → P y → P z → R x y → R y z → R x z

record Inserted (R : ℕ → ℕ → Type 0) (n : ℕ) (ns : List ℕ) : Type 0 where
  all : List ℕ
  sorted : AreSorted R all
  sound : (m : ℕ) → Contains all m → (m ≡ n) ⊎ Contains ns m
  added : Contains all n
  kept : (m : ℕ) → Contains ns m → Contains all m
  long : length all ≡ suc (length ns)

insert : (P : ℕ → Type 0) (R : ℕ → ℕ → Type 0) → IsLinear P R → (n : ℕ) (ns : List ℕ) → P n → ((m : ℕ) → Contains ns m → P m × (n ≢ m)) → AreSorted R ns → Inserted R n ns
insert P R line n [] is all sorted = record {
  all = n ∷ [];
  sorted = ((λ y h. absurd (contains_nothing y h)), tt);
  sound = λ m h. contains_cases n m [] h;
  added = contains_head n [];
  kept = λ m h. absurd (contains_nothing m h);
  long = refl;
}
insert P R line n (x ∷ xs) is all sorted =
    let here = all x (contains_head x xs) in
    elim (line.either n x is here.0 here.1) [
      | inl before ↦ record {
        all = n ∷ x ∷ xs;
        sorted = (
          (λ y h. elim (contains_cases x y xs h) [
            | inl e ↦ subst (λ (z : ℕ). R n z) (sym e) before
            | inr behind ↦ line.onward n x y is here.0 (all y (contains_tail x y xs behind)).0 before (sorted.0 y behind)
          ]),
          sorted,
        );
        sound = λ m h. contains_cases n m (x ∷ xs) h;
        added = contains_head n (x ∷ xs);
        kept = λ m h. contains_tail n m (x ∷ xs) h;
        long = refl;
      }
      | inr after ↦
          let r = insert P R line n xs is (λ m h. all m (contains_tail x m xs h)) sorted.1 in
          record {
            all = x ∷ r.all;
            sorted = (
              (λ y h. elim (r.sound y h) [ inl e ↦ subst (λ (z : ℕ). R x z) (sym e) after | inr behind ↦ sorted.0 y behind ]),
              r.sorted,
            );
            sound = λ m h. elim (contains_cases x m r.all h) [
              | inl e ↦ inr (subst (λ (z : ℕ). Contains (x ∷ xs) z) (sym e) (contains_head x xs))
              | inr rest ↦ elim (r.sound m rest) [ inl e ↦ inl e | inr old ↦ inr (contains_tail x m xs old) ]
            ];
            added = contains_tail x n r.all r.added;
            kept = λ m h. elim (contains_cases x m xs h) [
              | inl e ↦ subst (λ (z : ℕ). Contains (x ∷ r.all) z) (sym e) (contains_head x r.all)
              | inr old ↦ contains_tail x m r.all (r.kept m old)
            ];
            long = ap suc r.long;
          }
    ]

-- the wanted numbers below k, in their order
pub record Line (R : ℕ → ℕ → Type 0) (wanted : ℕ → Bool) (k : ℕ) : Type 0 where
  pub nodes : List ℕ
  pub sorted : AreSorted R nodes
  pub sound : (m : ℕ) → Contains nodes m → (m < k) × (wanted m ≡ true)
  pub complete : (m : ℕ) → m < k → wanted m ≡ true → Contains nodes m

one_more : (R : ℕ → ℕ → Type 0) (wanted : ℕ → Bool) (k : ℕ) → IsLinear (λ n. wanted n ≡ true) R → (b : Bool) → wanted k ≡ b → Line R wanted k → Line R wanted (suc k)
one_more R wanted k linear false test line = record {
  nodes = line.nodes;
  sorted = line.sorted;
  sound = λ m h. let r = line.sound m h in let low : m < k = r.0 in (omega arith, r.1);
  complete = λ m below yes. elim (before_or_at m k below) [
    | inl low ↦ line.complete m low yes
    | inr same ↦ absurd (let none : wanted m ≡ false = ap wanted same ∙ test in cc)
  ];
}
one_more R wanted k linear true test line =
    let r = insert (λ n. wanted n ≡ true) R linear k line.nodes test (λ m h. let s = line.sound m h in let low : m < k = s.0 in (s.1, omega arith)) line.sorted in
    record {
      nodes = r.all;
      sorted = r.sorted;
      sound = λ m h. elim (r.sound m h) [
        | inl e ↦ (omega arith, ap wanted e ∙ test)
        | inr old ↦ let s = line.sound m old in let low : m < k = s.0 in (omega arith, s.1)
      ];
      complete = λ m below is. elim (before_or_at m k below) [
        | inl low ↦ r.kept m (line.complete m low is)
        | inr same ↦ subst (λ (z : ℕ). Contains r.all z) (sym same) r.added
      ];
    }

pub line_below : (R : ℕ → ℕ → Type 0) (wanted : ℕ → Bool) (k : ℕ) → IsLinear (λ n. wanted n ≡ true) R → Line R wanted k
line_below R wanted zero linear = record {
  nodes = [];
  sorted = tt;
  sound = λ m h. absurd (contains_nothing m h);
  complete = λ m below yes. absurd (omega arith);
}
line_below R wanted (suc k) linear = one_more R wanted k linear (wanted k) refl (line_below R wanted k linear)

-- ---- one line

-- no number stands behind itself
twice : (R : ℕ → ℕ → Type 0) (n : ℕ) (ns : List ℕ) → ((x y : ℕ) → Contains (n ∷ ns) x → Contains (n ∷ ns) y → R x y → R y x → ⊥) → AreSorted R (n ∷ ns) → Contains ns n → ⊥
twice R n ns one_way sorted h = one_way n n (contains_head n ns) (contains_head n ns) (sorted.0 n h) (sorted.0 n h)

around : (R : ℕ → ℕ → Type 0) (n m x : ℕ) (ms : List ℕ) → n ≡ m → x ≡ n → AreSorted R (m ∷ ms) → Contains ms x → R n n
around R n m x ms heads e sorted h = subst (λ (z : ℕ). R z n) (sym heads) (subst (λ (z : ℕ). R m z) e (sorted.0 x h))

same_heads : (R : ℕ → ℕ → Type 0) (n m : ℕ) (ns ms : List ℕ) → ((x y : ℕ) → Contains (n ∷ ns) x → Contains (n ∷ ns) y → R x y → R y x → ⊥) → AreSorted R (n ∷ ns) → AreSorted R (m ∷ ms)
    → Contains (m ∷ ms) n → Contains (n ∷ ns) m → n ≡ m
same_heads R n m ns ms one_way first second there here =
    elim (contains_cases m n ms there) [
      | inl e ↦ e
      | inr behind ↦ elim (contains_cases n m ns here) [
        | inl e ↦ sym e
        | inr beyond ↦ absurd (one_way n m (contains_head n ns) (contains_tail n m ns beyond) (first.0 m beyond) (second.0 n behind))
      ]
    ]

-- lists of the same numbers in one order are the same
pub same_lists : (R : ℕ → ℕ → Type 0) (ns ms : List ℕ) → ((x y : ℕ) → Contains ns x → Contains ns y → R x y → R y x → ⊥) → AreSorted R ns → AreSorted R ms
    → ((x : ℕ) → Contains ns x → Contains ms x) → ((x : ℕ) → Contains ms x → Contains ns x) → ns ≡ ms
same_lists R [] [] one_way first second into back = refl
same_lists R [] (m ∷ ms) one_way first second into back = absurd (contains_nothing m (back m (contains_head m ms)))
same_lists R (n ∷ ns) [] one_way first second into back = absurd (contains_nothing n (into n (contains_head n ns)))
same_lists R (n ∷ ns) (m ∷ ms) one_way first second into back =
    let heads = same_heads R n m ns ms one_way first second (into n (contains_head n ns)) (back m (contains_head m ms)) in
    let tails = same_lists R ns ms (λ x y h k. one_way x y (contains_tail n x ns h) (contains_tail n y ns k)) first.1 second.1
    (λ x h. elim (contains_cases m x ms (into x (contains_tail n x ns h))) [
      | inl e ↦ absurd (twice R n ns one_way first (subst (λ (z : ℕ). Contains ns z) (e ∙ sym heads) h))
      | inr there ↦ there
    ])
    (λ x h. elim (contains_cases n x ns (back x (contains_tail m x ms h))) [
      | inl e ↦ absurd (one_way n n (contains_head n ns) (contains_head n ns) (around R n m x ms heads e second h) (around R n m x ms heads e second h))
      | inr there ↦ there
    ]) in
    ap (λ (z : ℕ). z ∷ ns) heads ∙ ap (λ (t : List ℕ). m ∷ t) tails

-- ---- a list put in order

-- the same numbers, in the order of the relation
pub record Sorted (R : ℕ → ℕ → Type 0) (xs : List ℕ) : Type 0 where
  pub all : List ℕ
  pub sorted : AreSorted R all
  pub kept : (m : ℕ) → Contains xs m → Contains all m
  pub sound : (m : ℕ) → Contains all m → Contains xs m
  pub long : length all ≡ length xs

pub sort : (P : ℕ → Type 0) (R : ℕ → ℕ → Type 0) → IsLinear P R → (xs : List ℕ) → ((m : ℕ) → Contains xs m → P m) → AreSorted (λ (x y : ℕ). x ≢ y) xs → Sorted R xs
sort P R linear [] is apart = record { all = []; sorted = tt; kept = λ m h. h; sound = λ m h. h; long = refl }
sort P R linear (x ∷ xs) is apart =
    let rest = sort P R linear xs (λ m h. is m (contains_tail x m xs h)) apart.1 in
    let more = insert P R linear x rest.all (is x (contains_head x xs)) (λ m h. let old = rest.sound m h in (is m (contains_tail x m xs old), apart.0 m old)) rest.sorted in
    record {
      all = more.all;
      sorted = more.sorted;
      kept = λ m h. elim (contains_cases x m xs h) [
        | inl e ↦ subst (λ (z : ℕ). Contains more.all z) (sym e) more.added
        | inr old ↦ more.kept m (rest.kept m old)
      ];
      sound = λ m h. elim (more.sound m h) [
        | inl e ↦ subst (λ (z : ℕ). Contains (x ∷ xs) z) (sym e) (contains_head x xs)
        | inr old ↦ contains_tail x m xs (rest.sound m old)
      ];
      long = more.long ∙ ap suc rest.long;
    }

-- ---- sorted lists of any kind

pub sorted_pairs : {X : Type 0} (R : X → X → Type 0) (xs : List X) → AllPairs R xs → AreSorted R xs
sorted_pairs R [] all = tt
sorted_pairs R (x ∷ xs) all = (
  (λ y h.
      let r = place_of xs y h in
      let within : r.0 < length xs = slice_get_within xs r.0 y r.1 in
      subst (λ z. R x z) (get_or_from_slice_get xs r.0 y y r.1) (all 0 (suc r.0) y (omega arith) (omega arith))),
  sorted_pairs R xs (λ i j d below within. all (suc i) (suc j) d (omega arith) (omega arith)),
)

pub sorted_append : {X : Type 0} (R : X → X → Type 0) (xs ys : List X) → AreSorted R xs → AreSorted R ys → ((x y : X) → Contains xs x → Contains ys y → R x y) → AreSorted R (xs ++ ys)
sorted_append R [] ys first second across = second
sorted_append R (x ∷ xs) ys first second across = (
  (λ y h. elim (Contains-append_cases xs ys y h) [ inl here ↦ first.0 y here | inr there ↦ across x y (contains_head x xs) there ]),
  sorted_append R xs ys first.1 second (λ z y h there. across z y (contains_tail x z xs h) there),
)

-- what stands before a place, and behind it
pub record Split {X : Type 0} (xs : List X) (i : ℕ) (x : X) : Type 0 where
  pub front : List X
  pub back : List X
  pub same : xs ≡ front ++ x ∷ back
  pub long : length front ≡ i

pub split_at : {X : Type 0} (xs : List X) (i : ℕ) (x : X) → slice_get xs i ≡ Some x → Split xs i x
split_at [] i x at = absurd (get_nothing i x at)
split_at (y ∷ ys) zero x at = record { front = []; back = ys; same = ap (λ z. z ∷ ys) (same_Some y x at); long = refl }
split_at (y ∷ ys) (suc i) x at =
    let r = split_at ys i x at in
    record { front = y ∷ r.front; back = r.back; same = ap (λ zs. y ∷ zs) r.same; long = ap suc r.long }
