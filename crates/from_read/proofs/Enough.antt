-- How many distinct edges pairs of atoms may derive.
use Rattle.std.proofs.Common.{◌≡◌, ℕ, zero, suc, ◌+◌, ◌*◌, ◌<◌, ◌≤◌, ◌⊎◌, inl, inr, Bool, true, false, List, [], ◌∷◌, ◌++◌, length, take, refl, ap, sym, ◌∙◌, subst, arith, get_or, set}
use Rattle.std.specs.Prelude.{Contains, filter, count_by, ◌==◌}
use Rattle.std.proofs.lemmas.Bool.{cases_Bool, cases_eq}
use Rattle.std.proofs.lemmas.List.{length-append, length-set, take_all, take_more, get_or-set_same, get_or-set_other}
use Rattle.std.proofs.lemmas.List.Sums.{count_by_more_yes, count_by_more_no}
use Rattle.dg_base.proofs.Lists.{contains_nothing, contains_head, contains_tail, contains_cases}
use Rattle.cycle_detect.proofs.Counting.{Distinct, distinct_once, contains_left, contains_right, contains_either}
use Rattle.cnf_problem.specs.declared.problem.Node.{Node}
use Rattle.cnf_problem.specs.declared.problem.Edge.{Edge}
use Rattle.cnf_problem.specs.declared.problem.Graph.TheVariants.{Local}
use Rattle.cnf_problem.specs.declared.problem.AtomKind.{AtomKind}
use Rattle.cnf_problem.specs.declared.problem.AtomKind.TheVariants.{ReadFrom, WriteOrder, Plain}
use Rattle.cnf_problem.specs.Edges.{derived_edges, global_edge}
use Rattle.from_read.specs.Parts.{IsEnough}

-- ---- a list without repeats of what another has is no longer

split_at : {X : Type 0} (xs : List X) (x : X) → Contains xs x → (front back : List X) × (xs ≡ front ++ (x ∷ back))
split_at [] x m = absurd (contains_nothing x m)
split_at (z ∷ zs) x m =
    elim (contains_cases z x zs m) [
      | inl e ↦ ([], zs, ap (λ y. y ∷ zs) (sym e))
      | inr h ↦ let r = split_at zs x h in (z ∷ r.0, r.1, ap (λ l. z ∷ l) r.2)
    ]

pub no_longer : {X : Type 0} (ns xs : List X) → Distinct ns → ((n : X) → Contains ns n → Contains xs n) → length ns ≤ length xs
no_longer [] xs d h = omega arith
no_longer {X} (n ∷ ns) xs d h =
    let r = split_at xs n (h n (contains_head n ns)) in
    let rest = no_longer ns (r.0 ++ r.1) d.1 (λ m k.
    elim (contains_either r.0 (n ∷ r.1) m (subst (λ (l : List X). Contains l m) r.2 (h m (contains_tail n m ns k)))) [
      | inl a ↦ contains_left r.0 r.1 m a
      | inr b ↦ elim (contains_cases n m r.1 b) [
        | inl e ↦ absurd (d.0 (subst (λ (y : X). Contains ns y) e k))
        | inr c ↦ contains_right r.0 r.1 m c
      ]
    ]) in
    let whole = ap (λ (l : List X). length l) r.2 in
    omega (arith, rest, whole, length-append r.0 r.1, length-append r.0 (n ∷ r.1))

-- ---- all edges between readers and later writes

abbrev edges_from : List Node → ℕ → List ℕ → List Edge
edges_from nodes r [] = []
edges_from nodes r (v ∷ vs) = record { graph = Local; from = r; to = v } ∷ (global_edge nodes r v ∷ edges_from nodes r vs)

abbrev all_edges : List Node → List ℕ → List ℕ → List Edge
all_edges nodes [] vs = []
all_edges nodes (r ∷ rs) vs = edges_from nodes r vs ++ all_edges nodes rs vs

length_from : (nodes : List Node) (r : ℕ) (vs : List ℕ) → length (edges_from nodes r vs) ≡ 2 * length vs
length_from nodes r [] = refl
length_from nodes r (v ∷ vs) = let rest = length_from nodes r vs in omega arith

length_all : (nodes : List Node) (rs vs : List ℕ) → length (all_edges nodes rs vs) ≡ 2 * (length rs * length vs)
length_all nodes [] vs = omega arith
length_all nodes (r ∷ rs) vs =
    let rest = length_all nodes rs vs in
    let one = length_from nodes r vs in
    omega (arith, rest, one, length-append (edges_from nodes r vs) (all_edges nodes rs vs))

has_from : (nodes : List Node) (r v : ℕ) (vs : List ℕ) (e : Edge) → Contains vs v → Contains (record { graph = Local; from = r; to = v } ∷ (global_edge nodes r v ∷ [])) e → Contains (edges_from nodes r vs) e
has_from nodes r v [] e m k = absurd (contains_nothing v m)
has_from nodes r v (w ∷ vs) e m k =
    elim (contains_cases w v vs m) [
      | inl same ↦ contains_left (record { graph = Local; from = r; to = w } ∷ (global_edge nodes r w ∷ [])) (edges_from nodes r vs) e (subst (λ (z : ℕ). Contains (record { graph = Local; from = r; to = z } ∷ (global_edge nodes r z ∷ [])) e) same k)
      | inr h ↦ contains_right (record { graph = Local; from = r; to = w } ∷ (global_edge nodes r w ∷ [])) (edges_from nodes r vs) e (has_from nodes r v vs e h k)
    ]

has_all : (nodes : List Node) (r v : ℕ) (rs vs : List ℕ) (e : Edge) → Contains rs r → Contains vs v → Contains (record { graph = Local; from = r; to = v } ∷ (global_edge nodes r v ∷ [])) e → Contains (all_edges nodes rs vs) e
has_all nodes r v [] vs e m n k = absurd (contains_nothing r m)
has_all nodes r v (q ∷ rs) vs e m n k =
    elim (contains_cases q r rs m) [
      | inl same ↦ contains_left (edges_from nodes q vs) (all_edges nodes rs vs) e (subst (λ (z : ℕ). Contains (edges_from nodes z vs) e) same (has_from nodes r v vs e n k))
      | inr h ↦ contains_right (edges_from nodes q vs) (all_edges nodes rs vs) e (has_all nodes r v rs vs e h n k)
    ]

-- ---- flags

abbrev pub numbers : ℕ → List ℕ
numbers zero = []
numbers (suc n) = n ∷ numbers n

pub has_number : (n k : ℕ) → k < n → Contains (numbers n) k
has_number zero k h = absurd (omega arith)
has_number (suc n) k h =
    elim (cases_eq k n) [
      | inl same ↦ subst (λ (z : ℕ). Contains (n ∷ numbers n) z) (sym same) (contains_head n (numbers n))
      | inr other ↦ contains_tail n k (numbers n) (has_number n k (omega arith))
    ]

abbrev is_set : List Bool → ℕ → Bool
is_set flags k = get_or flags k false

count_numbers : (flags : List Bool) (n : ℕ) → n ≤ length flags → length (filter (is_set flags) (numbers n)) ≡ count_by (λ b. b) (take n flags)
count_numbers flags zero h = refl
count_numbers flags (suc n) h =
    let rest = count_numbers flags n (omega arith) in
    let same : n + 1 ≡ suc n = omega arith in
    let at = ap (λ (k : ℕ). count_by (λ b. b) (take k flags)) same in
    elim (cases_Bool (is_set flags n)) [
      | inl on ↦
          let more = count_by_more_yes (λ b. b) flags n false (omega arith) on in
          let long : length (filter (is_set flags) (numbers (suc n))) ≡ suc (length (filter (is_set flags) (numbers n))) = rw on refl in
          omega (arith, rest, more, at, long)
      | inr off ↦
          let more = count_by_more_no (λ b. b) flags n false (omega arith) off in
          let long : length (filter (is_set flags) (numbers (suc n))) ≡ length (filter (is_set flags) (numbers n)) = rw off refl in
          omega (arith, rest, more, at, long)
    ]

has_set : (flags : List Bool) (n k : ℕ) → k < n → is_set flags k ≡ true → Contains (filter (is_set flags) (numbers n)) k
has_set flags zero k h e = absurd (omega arith)
has_set flags (suc n) k h e =
    elim (cases_eq k n) [
      | inl same ↦
          let on : is_set flags n ≡ true = ap (is_set flags) (sym same) ∙ e in
          rw on (subst (λ (z : ℕ). Contains (n ∷ filter (is_set flags) (numbers n)) z) (sym same) (contains_head n (filter (is_set flags) (numbers n))))
      | inr other ↦
          let rest = has_set flags n k (omega arith) e in
          elim (cases_Bool (is_set flags n)) [
            | inl on ↦ rw on (contains_tail n k (filter (is_set flags) (numbers n)) rest)
            | inr off ↦ rw off rest
          ]
    ]

-- ---- the bound

-- the flag of each node that reads, or that comes second, is set
pub record AreFlagged (kinds : List AtomKind) (reads seconds : List Bool) : Type 0 where
  pub read_set : (w r : ℕ) → Contains kinds (ReadFrom w r) → (r < length reads) × (get_or reads r false ≡ true)
  pub second_set : (u v : ℕ) → Contains kinds (WriteOrder u v) → (v < length seconds) × (get_or seconds v false ≡ true)

-- a derived edge is one of a pair of nodes
pub pair_of : (nodes : List Node) (kinds : List AtomKind) (e : Edge) (a b : AtomKind) → Contains kinds a → Contains kinds b → Contains (derived_edges nodes a b) e → (w r u v : ℕ) × Contains kinds (ReadFrom w r) × Contains kinds (WriteOrder u v) × Contains (record { graph = Local; from = r; to = v } ∷ (global_edge nodes r v ∷ [])) e
pair_of nodes kinds e (ReadFrom w r) (WriteOrder u v) a b m =
    elim (cases_Bool (w == u)) [
      | inl same ↦ (w, r, u, v, a, b, rw same at m)
      | inr other ↦ absurd (contains_nothing e (rw other at m))
    ]
pair_of nodes kinds e (ReadFrom w r) (ReadFrom x y) a b m = absurd (contains_nothing e m)
pair_of nodes kinds e (ReadFrom w r) Plain a b m = absurd (contains_nothing e m)
pair_of nodes kinds e (WriteOrder w r) k a b m = absurd (contains_nothing e m)
pair_of nodes kinds e Plain k a b m = absurd (contains_nothing e m)

pub enough : (nodes : List Node) (kinds : List AtomKind) (reads seconds : List Bool) (limit : ℕ) → AreFlagged kinds reads seconds → 2 * (count_by (λ b. b) reads * count_by (λ b. b) seconds) ≤ limit → IsEnough nodes kinds limit
enough nodes kinds reads seconds limit set bound es once able =
    let rs = filter (is_set reads) (numbers (length reads)) in
    let vs = filter (is_set seconds) (numbers (length seconds)) in
    let few = no_longer es (all_edges nodes rs vs) (distinct_once es once) (λ e m.
    let d = able e m in
    let p = pair_of nodes kinds e d.0 d.1 d.2 d.3 d.4 in
    let r = set.read_set p.0 p.1 p.4 in
    let v = set.second_set p.2 p.3 p.5 in
    has_all nodes p.1 p.3 rs vs e (has_set reads (length reads) p.1 r.0 r.1) (has_set seconds (length seconds) p.3 v.0 v.1) p.6) in
    let a : length rs ≡ count_by (λ b. b) reads = count_numbers reads (length reads) (omega arith) ∙ ap (λ (l : List Bool). count_by (λ b. b) l) (take_all (length reads) reads (omega arith)) in
    let b : length vs ≡ count_by (λ b. b) seconds = count_numbers seconds (length seconds) (omega arith) ∙ ap (λ (l : List Bool). count_by (λ b. b) l) (take_all (length seconds) seconds (omega arith)) in
    let all = length_all nodes rs vs in
    let one : length rs * length vs ≡ count_by (λ b. b) reads * count_by (λ b. b) seconds = ap (λ (n : ℕ). n * length vs) a ∙ ap (λ (n : ℕ). count_by (λ b. b) reads * n) b in
    omega (arith, few, all, one, bound)

pub length_numbers : (n : ℕ) → length (numbers n) ≡ n
length_numbers zero = refl
length_numbers (suc n) = let rest = length_numbers n in omega arith

-- ---- one kind more

set_same : (flags : List Bool) (r q : ℕ) → r < length flags → q ≡ r → get_or (set flags r true) q false ≡ true
set_same flags r q h same = subst (λ (z : ℕ). get_or (set flags r true) z false ≡ true) (sym same) (get_or-set_same flags r true false h)

set_more : (flags : List Bool) (r q : ℕ) → r < length flags → get_or flags q false ≡ true → get_or (set flags r true) q false ≡ true
set_more flags r q h on =
    elim (cases_eq q r) [
      | inl same ↦ set_same flags r q h same
      | inr other ↦ get_or-set_other flags r q true false other ∙ on
    ]

kind_more : (kinds : List AtomKind) (k : ℕ) (x a : AtomKind) → k < length kinds → get_or kinds k Plain ≡ x → Contains (take (k + 1) kinds) a → Contains (take k kinds) a ⊎ (a ≡ x)
kind_more kinds k x a h is m =
    elim (contains_either (take k kinds) (get_or kinds k Plain ∷ []) a (subst (λ (l : List AtomKind). Contains l a) (take_more kinds k Plain h) m)) [
      | inl old ↦ inl old
      | inr new ↦ elim (contains_cases (get_or kinds k Plain) a [] new) [ inl e ↦ inr (e ∙ is) | inr n ↦ absurd (contains_nothing a n) ]
    ]

pub flag_read : (kinds : List AtomKind) (k w r : ℕ) (reads seconds : List Bool) → k < length kinds → get_or kinds k Plain ≡ ReadFrom w r → r < length reads → AreFlagged (take k kinds) reads seconds → AreFlagged (take (k + 1) kinds) (set reads r true) seconds
flag_read kinds k w r reads seconds h is within set_so_far = record {
  read_set = λ x q m. elim (kind_more kinds k (ReadFrom w r) (ReadFrom x q) h is m) [
    | inl old ↦ let o = set_so_far.read_set x q old in (omega (arith, o.0, length-set reads r true), set_more reads r q within o.1)
    | inr new ↦
        let same : q ≡ r = cc in
        (omega (arith, within, same, length-set reads r true), set_same reads r q within same)
  ];
  second_set = λ u v m. elim (kind_more kinds k (ReadFrom w r) (WriteOrder u v) h is m) [
    | inl old ↦ set_so_far.second_set u v old
    | inr new ↦ let never : ⊥ = cc in absurd never
  ];
}

pub flag_second : (kinds : List AtomKind) (k u v : ℕ) (reads seconds : List Bool) → k < length kinds → get_or kinds k Plain ≡ WriteOrder u v → v < length seconds → AreFlagged (take k kinds) reads seconds → AreFlagged (take (k + 1) kinds) reads (set seconds v true)
flag_second kinds k u v reads seconds h is within set_so_far = record {
  read_set = λ x q m. elim (kind_more kinds k (WriteOrder u v) (ReadFrom x q) h is m) [
    | inl old ↦ set_so_far.read_set x q old
    | inr new ↦ let never : ⊥ = cc in absurd never
  ];
  second_set = λ x q m. elim (kind_more kinds k (WriteOrder u v) (WriteOrder x q) h is m) [
    | inl old ↦ let o = set_so_far.second_set x q old in (omega (arith, o.0, length-set seconds v true), set_more seconds v q within o.1)
    | inr new ↦
        let same : q ≡ v = cc in
        (omega (arith, within, same, length-set seconds v true), set_same seconds v q within same)
  ];
}

pub flag_plain : (kinds : List AtomKind) (k : ℕ) (reads seconds : List Bool) → k < length kinds → get_or kinds k Plain ≡ Plain → AreFlagged (take k kinds) reads seconds → AreFlagged (take (k + 1) kinds) reads seconds
flag_plain kinds k reads seconds h is set_so_far = record {
  read_set = λ x q m. elim (kind_more kinds k Plain (ReadFrom x q) h is m) [
    | inl old ↦ set_so_far.read_set x q old
    | inr new ↦ let never : ⊥ = cc in absurd never
  ];
  second_set = λ x q m. elim (kind_more kinds k Plain (WriteOrder x q) h is m) [
    | inl old ↦ set_so_far.second_set x q old
    | inr new ↦ let never : ⊥ = cc in absurd never
  ];
}
