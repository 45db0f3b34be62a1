-- Kept orders and cycles, the order after a move, and what a search costs.
use Rattle.std.proofs.Common.{◌≡◌, ℕ, zero, suc, ◌+◌, ◌-◌, ◌<◌, ◌≤◌, ◌⊎◌, inl, inr, Bool, true, false, not, List, [], ◌∷◌, ◌++◌, length, map, take, drop, refl, ap, sym, ◌∙◌, subst, arith}
use Rattle.std.specs.Prelude.{Some, Contains, slice_get, slice_index, slice_range, filter, count_by, ◌==◌}
use Rattle.std.specs.List.{list_any}
use Rattle.std.proofs.lemmas.Bool.{cases_lt, eq-eqb, or_left, or_right}
use Rattle.std.proofs.lemmas.List.{length_push, length-map}
use Rattle.std.proofs.lemmas.List.Sums.{length-filter}
use Rattle.std.proofs.lemmas.Option.{same_Some, slice_get_within}
use Rattle.dg_base.proofs.Lists.{get_there, contains_place, place_of, contains_cases, contains_nothing, get_from_map}
use Rattle.cnf_problem.specs.Edges.{Path, last, then, HasCycle}
use Rattle.cycle_detect.specs.declared.search.Visit.{Visit}
use Rattle.cycle_detect.specs.Orders.{OrderView, Held, IsPlace, IsKept, IsClosed, is_among, touches}
use Rattle.cycle_detect.specs.Parts.{AreVisits, is_seen, enters, looked, moved}
use Rattle.cycle_detect.proofs.Counting.{Distinct, HasOnce, distinct_once, once_distinct, contains_left, contains_right, contains_either, spread, no_longer, sum_map}
use Rattle.cycle_detect.proofs.Moving.{part_by, zone_out, found_filter, before_whole, before_apart, zone_of, length_parts, in_parts, whole_distinct, whole_from, whole_long, mid_zone, split_three, front_long, mid_long, mid_has}

-- ---- a kept order has no cycle

head_within : (o : OrderView) → IsKept o → {x z : ℕ} → Path (Held o.edges) x z → x < o.nodes
head_within o is (last {x = x} {y = y} e) = (is.within x y e).0
head_within o is (then {x = x} {y = y} e rest) = (is.within x y e).0

path_forward : (o : OrderView) → IsKept o → {x z : ℕ} → Path (Held o.edges) x z → (i j : ℕ) → IsPlace o.order x i → IsPlace o.order z j → i < j
path_forward o is (last {x = x} {y = y} e) i j a b = is.forward x y i j e a b
path_forward o is (then {x = x} {y = y} e rest) i j a b =
    let p = is.found y (is.within x y e).1 in
    let one = is.forward x y i p.0 e a p.1 in
    let others = path_forward o is rest p.0 j p.1 b in
    omega arith

pub kept_acyclic : (o : OrderView) → IsKept o → ¬ HasCycle (Held o.edges)
kept_acyclic o is (n, way) =
    let p = is.found n (head_within o is way) in
    let h = path_forward o is way p.0 p.0 p.1 p.1 in
    omega arith

-- ---- a closed list is a cycle

snoc : (E : ℕ → ℕ → Type 0) {x y : ℕ} (z : ℕ) → Path E x y → E y z → Path E x z
snoc E z (last e) f = then e (last f)
snoc E z (then e rest) f = then e (snoc E z rest f)

way_to : (edges : List (ℕ × ℕ)) (from to : ℕ) (cycle : List ℕ) → IsClosed edges from to cycle → (k x : ℕ) → slice_get cycle k ≡ Some x → Path (Held (edges ++ (from, to) ∷ [])) from x
way_to edges from to cycle is zero x e =
    let same : to ≡ x = same_Some to x (sym is.first ∙ e) in
    subst (λ (n : ℕ). Path (Held (edges ++ (from, to) ∷ [])) from n) same (last (contains_right edges ((from, to) ∷ []) (from, to) (contains_place ((from, to) ∷ []) 0 (from, to) refl)))
way_to edges from to cycle is (suc k) x e =
    let h = slice_get_within cycle (suc k) x e in
    let before = get_there cycle k (omega arith) in
    let one : suc k ≡ k + 1 = omega arith in
    let held = is.leads k before.0 x before.1 (subst (λ (n : ℕ). slice_get cycle n ≡ Some x) one e) in
    snoc (Held (edges ++ (from, to) ∷ [])) x (way_to edges from to cycle is k before.0 before.1) (contains_left edges ((from, to) ∷ []) (before.0, x) held)

pub closed_cycle : (edges : List (ℕ × ℕ)) (from to : ℕ) (cycle : List ℕ) → IsClosed edges from to cycle → HasCycle (Held (edges ++ (from, to) ∷ []))
closed_cycle edges from to cycle is = (from, way_to edges from to cycle is (length cycle - 1) from is.last)

-- ---- one edge more

held_cases : (edges : List (ℕ × ℕ)) (from to x y : ℕ) → Held (edges ++ (from, to) ∷ []) x y → Held edges x y ⊎ ((x ≡ from) × (y ≡ to))
held_cases edges from to x y m =
    elim (contains_either edges ((from, to) ∷ []) (x, y) m) [
      | inl a ↦ inl a
      | inr b ↦ elim (contains_cases (from, to) (x, y) [] b) [
        | inl e ↦ inr (ap (λ (p : ℕ × ℕ). p.0) e, ap (λ (p : ℕ × ℕ). p.1) e)
        | inr n ↦ absurd (contains_nothing (x, y) n)
      ]
    ]

-- an edge that goes forward in a kept order
pub kept_forward : (nodes limit from to : ℕ) (edges : List (ℕ × ℕ)) (order cycle after : List ℕ) → IsKept (record { nodes = nodes; max_edges = limit; edges = edges; order = order; cycle = cycle }) → length edges < limit → from < nodes → to < nodes → ((i j : ℕ) → IsPlace order from i → IsPlace order to j → i < j) → IsKept (record { nodes = nodes; max_edges = limit; edges = edges ++ (from, to) ∷ []; order = order; cycle = after })
kept_forward nodes limit from to edges order cycle after is room f t forth = record {
  count = is.count;
  range = is.range;
  found = is.found;
  once = is.once;
  room = omega (arith, length_push edges (from, to));
  forward = λ x y i j m a b. elim (held_cases edges from to x y m) [
    | inl h ↦ is.forward x y i j h a b
    | inr r ↦ forth i j (subst (λ (n : ℕ). IsPlace order n i) r.0 a) (subst (λ (n : ℕ). IsPlace order n j) r.1 b)
  ];
  within = λ x y m. elim (held_cases edges from to x y m) [
    | inl h ↦ is.within x y h
    | inr r ↦ (omega (arith, r.0), omega (arith, r.1))
  ];
}

-- the order after a move serves the held edges
pub kept_moved : (nodes limit low high : ℕ) (edges : List (ℕ × ℕ)) (order cycle after : List ℕ) (seen : List Bool) → IsKept (record { nodes = nodes; max_edges = limit; edges = edges; order = order; cycle = cycle }) → low ≤ high → high < length order → ((x y i : ℕ) → Held edges x y → is_seen seen y ≡ true → IsPlace order x i → low ≤ i → is_seen seen x ≡ true) → IsKept (record { nodes = nodes; max_edges = limit; edges = edges; order = moved seen low high order; cycle = after })
kept_moved nodes limit low high edges order cycle after seen is h k closed =
    let front = take low order in
    let mid = slice_range order low (high + 1) in
    let back = drop (high + 1) order in
    let e : order ≡ front ++ (mid ++ back) = split_three order low high h in
    let test = is_seen seen in
    let f_long = front_long order low high h k in
    let apart = once_distinct (moved seen low high order) (whole_distinct test front mid back (subst (λ (z : List ℕ). Distinct z) e (distinct_once order is.once))) in
    let there : (n i : ℕ) → IsPlace order n i → slice_get (front ++ (mid ++ back)) i ≡ Some n = λ n i p. subst (λ (z : List ℕ). slice_get z i ≡ Some n) e p in
    record {
      count = whole_long test front mid back ∙ (ap (λ (z : List ℕ). length z) (sym e) ∙ is.count);
      range = λ i n p.
          let m = whole_from test front mid back n (contains_place (moved seen low high order) i n p) in
          let q = place_of order n (subst (λ (z : List ℕ). Contains z n) (sym e) m) in
          is.range q.0 n q.1;
      found = λ n l.
          let p = is.found n l in
          let z = zone_of front mid (part_by test mid) back p.0 n (length_parts test mid) (λ m g. in_parts test mid m n g) (there n p.0 p.1) in
          (z.0, z.1);
      once = apart;
      room = is.room;
      forward = λ x y i j m a b.
          let w = is.within x y m in
          let p = is.found x w.0 in
          let q = is.found y w.1 in
          let c = before_whole test front mid back p.0 q.0 x y (there x p.0 p.1) (there y q.0 q.1) (is.forward x y p.0 q.0 m p.1 q.1) (λ l s. closed x y p.0 m s p.1 (omega arith)) in
          let same_i = apart i c.0 x a c.3 in
          let same_j = apart j c.1 y b c.4 in
          omega (arith, c.2);
      within = is.within;
    }

-- one that was reached stands before one that was not
pub moved_apart : (low high i j from to : ℕ) (order : List ℕ) (seen : List Bool) → HasOnce (moved seen low high order) → low ≤ high → high < length order → IsPlace order from high → IsPlace order to low → is_seen seen from ≡ true → is_seen seen to ≡ false → IsPlace (moved seen low high order) from i → IsPlace (moved seen low high order) to j → i < j
moved_apart low high i j from to order seen apart h k f t on off a b =
    let mid = slice_range order low (high + 1) in
    let p = mid_has order low high high from h (omega arith) k f in
    let q = mid_has order low high low to (omega arith) h k t in
    let c = before_apart (is_seen seen) mid p.0 q.0 from to p.2 q.2 on off in
    let part = filter (is_seen seen) mid ++ filter (λ n. not (is_seen seen n)) mid in
    let same_i = apart i (length (take low order) + c.0) from a (mid_zone (take low order) part (drop (high + 1) order) c.0 from c.3) in
    let same_j = apart j (length (take low order) + c.1) to b (mid_zone (take low order) part (drop (high + 1) order) c.1 to c.4) in
    omega (arith, c.2)

-- the others stay where they were
pub moved_near : (low high k n : ℕ) (order : List ℕ) (seen : List Bool) → low ≤ high → high < length order → IsPlace order n k → IsPlace (moved seen low high order) n k ⊎ ((low ≤ k) × (k ≤ high))
moved_near low high k n order seen h l e =
    let front = take low order in
    let mid = slice_range order low (high + 1) in
    let back = drop (high + 1) order in
    let part = filter (is_seen seen) mid ++ filter (λ m. not (is_seen seen m)) mid in
    let f_long = front_long order low high h l in
    let m_long = mid_long order low high h l in
    let z = zone_of front mid part back k n (length_parts (is_seen seen) mid) (λ m g. in_parts (is_seen seen) mid m n g) (subst (λ (y : List ℕ). slice_get y k ≡ Some n) (split_three order low high h) e) in
    let stays : (k < low) ⊎ (high < k) → IsPlace (moved seen low high order) n k = λ out.
    let same : z.0 ≡ k = zone_out (length front) (length mid) k z.0 z.2 (λ p q. elim out [ inl l ↦ omega arith | inr r ↦ omega arith ]) in
    subst (λ (j : ℕ). slice_get (moved seen low high order) j ≡ Some n) same z.1 in
    elim (cases_lt k low) [
      | inl before ↦ inl (stays (inl before))
      | inr from ↦ elim (cases_lt high k) [
        | inl behind ↦ inl (stays (inr behind))
        | inr to ↦ inr (from, to)
      ]
    ]

-- ---- what a search costs

any_has : (xs : List ℕ) (n : ℕ) → Contains xs n → list_any (λ m. m == n) xs ≡ true
any_has [] n m = absurd (contains_nothing n m)
any_has (x ∷ xs) n m =
    elim (contains_cases x n xs m) [
      | inl e ↦ or_left (x == n) (list_any (λ k. k == n) xs) (eq-eqb x n (sym e))
      | inr h ↦ or_right (x == n) (list_any (λ k. k == n) xs) (any_has xs n h)
    ]

nodes_distinct : (edges : List (ℕ × ℕ)) (places : List ℕ) (low from : ℕ) (visits : List Visit) (seen : List Bool) → AreVisits edges places low from visits seen → Distinct (map (λ (v : Visit). v.node) visits)
nodes_distinct edges places low from visits seen are =
    distinct_once (map (λ (v : Visit). v.node) visits) (λ i j n a b.
    let p = get_from_map (λ (v : Visit). v.node) visits i n a in
    let q = get_from_map (λ (v : Visit). v.node) visits j n b in
    are.once i j p.0 q.0 p.1 q.1 (p.2 ∙ sym q.2))

-- a visited node stands between the places, and is seen
nodes_between : (edges : List (ℕ × ℕ)) (places order : List ℕ) (low high from : ℕ) (visits : List Visit) (seen : List Bool) → AreVisits edges places low from visits seen → ((n : ℕ) → n < length seen → IsPlace order n (slice_index places n)) → slice_index places from ≡ high → high < length order → (n : ℕ) → Contains (map (λ (v : Visit). v.node) visits) n → Contains (slice_range order low (high + 1)) n × (is_seen seen n ≡ true)
nodes_between edges places order low high from visits seen are placed at h n m =
    let i = place_of (map (λ (v : Visit). v.node) visits) n m in
    let v = get_from_map (λ (v : Visit). v.node) visits i.0 n i.1 in
    let w = are.within i.0 v.0 v.1 in
    let p = mid_has order low high (slice_index places v.0.node) v.0.node w.1 (omega (arith, w.2, at)) h (placed v.0.node w.0) in
    let inside = contains_place (slice_range order low (high + 1)) p.0 v.0.node p.2 in
    (subst (λ (k : ℕ). Contains (slice_range order low (high + 1)) k) v.2 inside, subst (λ (k : ℕ). is_seen seen k ≡ true) v.2 (are.marked i.0 v.0 v.1))

pub looked_bound : (edges : List (ℕ × ℕ)) (places order : List ℕ) (low high from : ℕ) (visits : List Visit) (seen : List Bool) → AreVisits edges places low from visits seen → ((n : ℕ) → n < length seen → IsPlace order n (slice_index places n)) → slice_index places from ≡ high → high < length order → looked edges visits ≤ count_by (touches order low high) edges
looked_bound edges places order low high from visits seen are placed at h =
    let ns = map (λ (v : Visit). v.node) visits in
    let s = spread (λ (e : ℕ × ℕ). e.1) (touches order low high) edges ns (nodes_distinct edges places low from visits seen are) (λ e m. or_right (is_among order low high e.0) (is_among order low high e.1) (any_has (slice_range order low (high + 1)) e.1 (nodes_between edges places order low high from visits seen are placed at h e.1 m).0)) in
    omega (arith, s, sum_map (λ n. count_by (enters n) edges) (λ (v : Visit). v.node) visits)

-- the visits are as many as the nodes between the places that are seen, at most
pub visits_between : (edges : List (ℕ × ℕ)) (places order : List ℕ) (low high from : ℕ) (visits : List Visit) (seen : List Bool) → AreVisits edges places low from visits seen → ((n : ℕ) → n < length seen → IsPlace order n (slice_index places n)) → slice_index places from ≡ high → high < length order → length visits ≤ count_by (is_seen seen) (slice_range order low (high + 1))
visits_between edges places order low high from visits seen are placed at h =
    let ns = map (λ (v : Visit). v.node) visits in
    let mid = slice_range order low (high + 1) in
    let few = no_longer ns (filter (is_seen seen) mid) (nodes_distinct edges places low from visits seen are) (λ n m.
    let b = nodes_between edges places order low high from visits seen are placed at h n m in
    let p = place_of mid n b.0 in
    let f = found_filter (is_seen seen) mid p.0 n p.1 b.1 in
    contains_place (filter (is_seen seen) mid) f.0 n f.1) in
    omega (arith, few, length-map visits (λ (v : Visit). v.node), length-filter (is_seen seen) mid)
