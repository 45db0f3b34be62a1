-- The parts of an order together: at the beginning, after an edge that goes forward, a search and a move.
use Rattle.std.proofs.Common.{◌≡◌, ◌≢◌, ℕ, ◌+◌, ◌-◌, ◌*◌, ◌<◌, ◌≤◌, ◌⊎◌, inl, inr, Bool, true, false, not, List, [], ◌∷◌, ◌++◌, length, take, drop, replicate, refl, ap, sym, ◌∙◌, subst, arith, get_or}
use Rattle.std.specs.Prelude.{Some, slice_get, slice_index, slice_range, count_by}
use Rattle.std.proofs.lemmas.Bool.{cases_lt, false_from_ne_true}
use Rattle.std.proofs.lemmas.List.{get_or-replicate, get_or_past, length-replicate, length-take, take-append-drop, take_all, drop_all, append-nil, get_or_read}
use Rattle.std.proofs.lemmas.List.Sums.{length-filter, count_by-le-length}
use Rattle.std.proofs.lemmas.List.Filters.{length-filter_both}
use Rattle.std.proofs.lemmas.Option.{slice_get_within, slice_get-get_or, get_or_from_slice_get}
use Rattle.dg_base.proofs.Lists.{get_there, contains_nothing}
use Rattle.cycle_detect.specs.declared.search.Visit.{Visit}
use Rattle.cycle_detect.specs.Orders.{OrderView, Held, IsPlace, IsKept, touches, steps_back}
use Rattle.cycle_detect.specs.Parts.{AreVisits, ArePlaces, AreParts, IsClosedAt, is_seen, looked, moved}
use Rattle.cycle_detect.proofs.Counting.{contains_left}
use Rattle.cycle_detect.proofs.Moving.{mid_long}
use Rattle.cycle_detect.proofs.Paths.{moved_near, kept_forward, kept_moved, moved_apart, looked_bound, visits_between}

-- ---- places

-- a node's place
pub place_of_node : (order places : List ℕ) (n i : ℕ) → ArePlaces order places → IsPlace order n i → slice_index places n ≡ i
place_of_node order places n i are e =
    let h = slice_get_within order i n e in
    ap (λ (k : ℕ). slice_index places k) (sym (get_or_from_slice_get order i n 0 e)) ∙ are.forth i h

-- a node stands at its place
pub node_place : (o : OrderView) (places : List ℕ) (n : ℕ) → IsKept o → ArePlaces o.order places → n < o.nodes → IsPlace o.order n (slice_index places n)
node_place o places n kept are h =
    let p = kept.found n h in
    subst (λ (i : ℕ). IsPlace o.order n i) (sym (place_of_node o.order places n p.0 are p.1)) p.1

pub place_within : (o : OrderView) (places : List ℕ) (n : ℕ) → IsKept o → ArePlaces o.order places → n < o.nodes → slice_index places n < o.nodes
place_within o places n kept are h =
    let p = node_place o places n kept are h in
    omega (arith, slice_get_within o.order (slice_index places n) n p, kept.count)

-- held edges go to later places
pub places_forward : (o : OrderView) (places : List ℕ) → IsKept o → ArePlaces o.order places → (x y : ℕ) → Held o.edges x y → slice_index places x < slice_index places y
places_forward o places kept are x y m =
    let w = kept.within x y m in
    kept.forward x y (slice_index places x) (slice_index places y) m (node_place o places x kept are w.0) (node_place o places y kept are w.1)

-- ---- the beginning

pub kept_new : (nodes limit : ℕ) (order cycle : List ℕ) → length order ≡ nodes → ((k : ℕ) → k < nodes → slice_index order k ≡ k) → IsKept (record { nodes = nodes; max_edges = limit; edges = []; order = order; cycle = cycle })
kept_new nodes limit order cycle long turn =
    let at : (i n : ℕ) → IsPlace order n i → i ≡ n = λ i n e. sym (turn i (omega (arith, slice_get_within order i n e))) ∙ get_or_from_slice_get order i n 0 e in
    record {
      count = long;
      range = λ i n e. let same = at i n e in omega (arith, slice_get_within order i n e);
      found = λ n h. (n, slice_get-get_or order n 0 (omega arith) ∙ ap (λ (k : ℕ). Some k) (turn n h));
      once = λ i j n a b. at i n a ∙ sym (at j n b);
      room = omega arith;
      forward = λ x y i j m a b. absurd (contains_nothing (x, y) m);
      within = λ x y m. absurd (contains_nothing (x, y) m);
    }

pub parts_new : (nodes limit : ℕ) (order places cycle : List ℕ) (seen : List Bool) → nodes ≤ 4294967295 → length order ≡ nodes → ((k : ℕ) → k < nodes → slice_index order k ≡ k) → length places ≡ nodes → ((k : ℕ) → k < nodes → slice_index places k ≡ k) → seen ≡ replicate nodes false → AreParts (record { nodes = nodes; max_edges = limit; edges = []; order = order; cycle = cycle }) places seen
parts_new nodes limit order places cycle seen small long turn p_long p_turn clear = record {
  kept = kept_new nodes limit order cycle long turn;
  placed = record {
    long = omega arith;
    range = λ k h. let e = turn k (omega arith) in omega arith;
    forth = λ k h. ap (λ (i : ℕ). slice_index places i) (turn k (omega arith)) ∙ p_turn k (omega arith);
  };
  unseen = λ n. ap (λ (z : List Bool). is_seen z n) clear ∙ elim (cases_lt n nodes) [
    | inl h ↦ get_or-replicate nodes n false false h
    | inr past ↦ get_or_past (replicate nodes false) n false (omega (arith, length-replicate nodes false))
  ];
  seen_long = ap (λ (z : List Bool). length z) clear ∙ length-replicate nodes false;
  small = small;
}

-- ---- an edge more

pub parts_forward : (nodes limit from to : ℕ) (edges : List (ℕ × ℕ)) (order places cycle : List ℕ) (seen : List Bool) → AreParts (record { nodes = nodes; max_edges = limit; edges = edges; order = order; cycle = cycle }) places seen → length edges < limit → from < nodes → to < nodes → slice_index places from < slice_index places to → AreParts (record { nodes = nodes; max_edges = limit; edges = edges ++ (from, to) ∷ []; order = order; cycle = cycle }) places seen
parts_forward nodes limit from to edges order places cycle seen are room f t h = record {
  kept = kept_forward nodes limit from to edges order cycle cycle are.kept room f t (λ i j a b. let p = place_of_node order places from i are.placed a in let q = place_of_node order places to j are.placed b in omega arith);
  placed = are.placed;
  unseen = are.unseen;
  seen_long = are.seen_long;
  small = are.small;
}

-- another cycle is told, and nothing is seen any more
pub parts_closed : (nodes limit : ℕ) (edges : List (ℕ × ℕ)) (order places cycle after : List ℕ) (seen now : List Bool) → AreParts (record { nodes = nodes; max_edges = limit; edges = edges; order = order; cycle = cycle }) places seen → length now ≡ length seen → ((n : ℕ) → is_seen now n ≡ true → ⊥) → AreParts (record { nodes = nodes; max_edges = limit; edges = edges; order = order; cycle = after }) places now
parts_closed nodes limit edges order places cycle after seen now are long none =
    let k = are.kept in
    record {
      kept = record { count = k.count; range = k.range; found = k.found; once = k.once; room = k.room; forward = k.forward; within = k.within };
      placed = are.placed;
      unseen = λ n. false_from_ne_true (is_seen now n) (none n);
      seen_long = long ∙ are.seen_long;
      small = are.small;
    }

-- who was seen in a search is seen no more where the visits were forgotten
pub forgotten : (edges : List (ℕ × ℕ)) (places : List ℕ) (low from : ℕ) (visits : List Visit) (seen now : List Bool) → AreVisits edges places low from visits seen → ((n : ℕ) → is_seen now n ≡ true → (is_seen seen n ≡ true) × ((i : ℕ) (v : Visit) → slice_get visits i ≡ Some v → v.node ≢ n)) → (n : ℕ) → is_seen now n ≡ true → ⊥
forgotten edges places low from visits seen now are left n e =
    let l = left n e in
    let v = are.listed n l.0 in
    l.1 v.0 v.1.0 v.1.1 v.1.2

-- after the move
pub parts_moved : (nodes limit from to : ℕ) (edges : List (ℕ × ℕ)) (order places cycle : List ℕ) (seen : List Bool) (visits : List Visit) (reached now : List Bool) (order_now places_now : List ℕ) → AreParts (record { nodes = nodes; max_edges = limit; edges = edges; order = order; cycle = cycle }) places seen → length edges < limit → from < nodes → to < nodes → slice_index places to ≤ slice_index places from → AreVisits edges places (slice_index places to) from visits reached → ((y : ℕ) → is_seen reached y ≡ true → IsClosedAt edges places (slice_index places to) reached y) → is_seen reached to ≡ false → length reached ≡ nodes → length now ≡ nodes → order_now ≡ moved reached (slice_index places to) (slice_index places from) order → ArePlaces order_now places_now → ((k : ℕ) → slice_index places to ≤ k → k ≤ slice_index places from → is_seen now (slice_index order k) ≡ false) → ((n : ℕ) → is_seen now n ≡ true → is_seen reached n ≡ true) → AreParts (record { nodes = nodes; max_edges = limit; edges = edges ++ (from, to) ∷ []; order = order_now; cycle = cycle }) places_now now
parts_moved nodes limit from to edges order places cycle seen visits reached now order_now places_now are room f t back search closed apart r_long n_long order_is placed inside outside =
    let o : OrderView = record { nodes = nodes; max_edges = limit; edges = edges; order = order; cycle = cycle } in
    let low = slice_index places to in
    let high = slice_index places from in
    let at_low = node_place o places to are.kept are.placed t in
    let at_high = node_place o places from are.kept are.placed f in
    let h_in = slice_get_within order high from at_high in
    let moved_kept = kept_moved nodes limit low high edges order cycle cycle reached are.kept back h_in (λ x y i m s p l. let e = place_of_node order places x i are.placed p in closed y s x m (omega arith)) in
    let first = get_there visits 0 search.some in
    let on : is_seen reached from ≡ true = subst (λ (n : ℕ). is_seen reached n ≡ true) (search.root first.0 first.1) (search.marked 0 first.0 first.1) in
    let whole = kept_forward nodes limit from to edges (moved reached low high order) cycle cycle moved_kept room f t (λ i j a b. moved_apart low high i j from to order reached moved_kept.once back h_in at_high at_low on apart a b) in
    record {
      kept = subst (λ (z : List ℕ). IsKept (record { nodes = nodes; max_edges = limit; edges = edges ++ (from, to) ∷ []; order = z; cycle = cycle })) (sym order_is) whole;
      placed = placed;
      unseen = λ n. false_from_ne_true (is_seen now n) (λ e.
          let v = search.listed n (outside n e) in
          let w = search.within v.0 v.1.0 v.1.1 in
          let same = v.1.2 in
          let there = node_place o places v.1.0.node are.kept are.placed (omega (arith, w.0)) in
          let off = inside (slice_index places v.1.0.node) w.1 w.2 in
          let read = get_or_from_slice_get order (slice_index places v.1.0.node) v.1.0.node 0 there in
          let bad : true ≡ false = sym e ∙ (ap (λ (k : ℕ). is_seen now k) (sym same) ∙ (ap (λ (k : ℕ). is_seen now k) (sym read) ∙ off)) in
          let fails : ⊥ = cc in fails);
      seen_long = n_long;
      small = are.small;
    }

-- ---- the cost

-- what is seen and what is not are all
both_counts : (seen : List Bool) (mid : List ℕ) → count_by (is_seen seen) mid + count_by (λ n. not (is_seen seen n)) mid ≡ length mid
both_counts seen mid =
    omega (arith, length-filter_both (is_seen seen) (λ n. not (is_seen seen n)) (λ x. refl) mid, length-filter (is_seen seen) mid, length-filter (λ n. not (is_seen seen n)) mid)

-- what a search costs, and how many it visits
pub search_cost : (o : OrderView) (places : List ℕ) (seen : List Bool) (low from to : ℕ) (visits : List Visit) (reached : List Bool) → AreParts o places seen → from < o.nodes → length reached ≡ o.nodes → AreVisits o.edges places low from visits reached → (looked o.edges visits ≤ count_by (touches o.order low (slice_index places from)) o.edges) × (length visits ≤ count_by (is_seen reached) (slice_range o.order low (slice_index places from + 1)))
search_cost o places seen low from to visits reached are f long search =
    let high = slice_index places from in
    let at_high = node_place o places from are.kept are.placed f in
    let h_in = slice_get_within o.order high from at_high in
    let placed : (n : ℕ) → n < length reached → IsPlace o.order n (slice_index places n) = λ n h. node_place o places n are.kept are.placed (omega arith) in (
      looked_bound o.edges places o.order low high from visits reached search placed refl h_in,
      visits_between o.edges places o.order low high from visits reached search placed refl h_in,
    )

-- a move after a search without a cycle
pub moved_cost : (o : OrderView) (places : List ℕ) (seen : List Bool) (from to : ℕ) (visits : List Visit) (reached : List Bool) (before searched moved_at : ℕ) → AreParts o places seen → from < o.nodes → slice_index places to ≤ slice_index places from → length reached ≡ o.nodes → AreVisits o.edges places (slice_index places to) from visits reached → searched ≤ before + 1 + length visits + looked o.edges visits → moved_at ≡ searched + 2 * (slice_index places from + 1 - slice_index places to) + count_by (λ n. not (is_seen reached n)) (slice_range o.order (slice_index places to) (slice_index places from + 1)) → moved_at ≤ before + steps_back o (slice_index places to) (slice_index places from)
moved_cost o places seen from to visits reached before searched moved_at are f back long search a b =
    let low = slice_index places to in
    let high = slice_index places from in
    let at_high = node_place o places from are.kept are.placed f in
    let h_in = slice_get_within o.order high from at_high in
    let c = search_cost o places seen low from to visits reached are f long search in
    let mid = slice_range o.order low (high + 1) in
    let m = mid_long o.order low high back h_in in
    let p = both_counts reached mid in
    let few = c.1 in
    let edges_few = c.0 in
    sums (length visits) (looked o.edges visits) (count_by (touches o.order low high) o.edges) (count_by (is_seen reached) mid) (count_by (λ n. not (is_seen reached n)) mid) (high + 1 - low) (high - low + 1) before searched moved_at few edges_few (p ∙ m) (omega arith) a b
  where
    sums : (v l t s u m d b x y : ℕ) → v ≤ s → l ≤ t → s + u ≡ m → m ≡ d → x ≤ b + 1 + v + l → y ≡ x + 2 * m + u → y ≤ b + (3 * d + 3 * t + 1)
    sums v l t s u m d b x y p q r e f g = omega arith

-- a cycle that is told, and the visits that are forgotten
pub closed_cost : (o : OrderView) (places : List ℕ) (seen : List Bool) (from to at : ℕ) (visits : List Visit) (reached : List Bool) (before searched traced forgot nodes : ℕ) → AreParts o places seen → from < o.nodes → slice_index places to ≤ slice_index places from → length reached ≡ o.nodes → AreVisits o.edges places (slice_index places to) from visits reached → at < length visits → nodes + 0 ≤ at + 1 → searched ≤ before + 1 + length visits + looked o.edges visits → traced ≡ searched + nodes → forgot ≡ traced + length visits → forgot ≤ before + steps_back o (slice_index places to) (slice_index places from)
closed_cost o places seen from to at visits reached before searched traced forgot nodes are f back long search within short a b e =
    let low = slice_index places to in
    let high = slice_index places from in
    let at_high = node_place o places from are.kept are.placed f in
    let h_in = slice_get_within o.order high from at_high in
    let c = search_cost o places seen low from to visits reached are f long search in
    let mid = slice_range o.order low (high + 1) in
    let m = mid_long o.order low high back h_in in
    let p = count_by-le-length (is_seen reached) mid in
    sums (length visits) (looked o.edges visits) (count_by (touches o.order low high) o.edges) nodes (high - low + 1) before searched traced forgot (omega (arith, c.1, p, m)) c.0 (omega arith) a b e
  where
    sums : (v l t n d b x y z : ℕ) → v ≤ d → l ≤ t → n ≤ v → x ≤ b + 1 + v + l → y ≡ x + n → z ≡ y + v → z ≤ b + (3 * d + 3 * t + 1)
    sums v l t n d b x y z p q r e f g = omega arith

-- with fewer edges
pub parts_cut : (nodes limit n : ℕ) (edges : List (ℕ × ℕ)) (order places cycle : List ℕ) (seen : List Bool) → AreParts (record { nodes = nodes; max_edges = limit; edges = edges; order = order; cycle = cycle }) places seen → AreParts (record { nodes = nodes; max_edges = limit; edges = take n edges; order = order; cycle = cycle }) places seen
parts_cut nodes limit n edges order places cycle seen are =
    let k = are.kept in
    let there : (x y : ℕ) → Held (take n edges) x y → Held edges x y = λ x y m. subst (λ (z : List (ℕ × ℕ)). Held z x y) (take-append-drop n edges) (contains_left (take n edges) (drop n edges) (x, y) m) in
    record {
      kept = record {
        count = k.count;
        range = k.range;
        found = k.found;
        once = k.once;
        room = let r = k.room in omega (arith, r, length-take n edges);
        forward = λ x y i j m a b. k.forward x y i j (there x y m) a b;
        within = λ x y m. k.within x y (there x y m);
      };
      placed = are.placed;
      unseen = are.unseen;
      seen_long = are.seen_long;
      small = are.small;
    }

-- ---- as the code reads them

pub written_back : {X : Type 0} (n : ℕ) (now old : List X) → length now ≡ length old → n ≡ length old → take n (now ++ drop (length now) old) ≡ now
written_back n now old e en = rw (drop_all (length now) old (omega arith), append-nil now) (take_all n now (omega arith))

pub read_place : (o : OrderView) (places : List ℕ) (seen : List Bool) (n x : ℕ) → AreParts o places seen → n < o.nodes → x ≡ get_or places n x → x ≡ slice_index places n
read_place o places seen n x are h read = get_or_read places n x (omega (arith, are.placed.long, are.kept.count)) read 0

-- places by their nodes
pub cost_at : (o : OrderView) (places : List ℕ) (from to x before : ℕ) → ArePlaces o.order places → x ≤ before + steps_back o (slice_index places to) (slice_index places from) → (v : OrderView) → o ≡ v → (i j : ℕ) → IsPlace v.order from i → IsPlace v.order to j → j ≤ i → x ≤ before + steps_back v j i
cost_at o places from to x before are h v e =
    let goal : OrderView → Type 0 = λ u. (i j : ℕ) → IsPlace u.order from i → IsPlace u.order to j → j ≤ i → x ≤ before + steps_back u j i in
    subst goal e (λ i j a b l.
    let high = place_of_node o.order places from i are a in
    let low = place_of_node o.order places to j are b in
    let one = subst (λ (n : ℕ). x ≤ before + steps_back o n (slice_index places from)) low h in
    subst (λ (n : ℕ). x ≤ before + steps_back o j n) high one)

pub never_forward : (o : OrderView) (places : List ℕ) (from to : ℕ) → ArePlaces o.order places → slice_index places to ≤ slice_index places from → (v : OrderView) → o ≡ v → (i j : ℕ) → IsPlace v.order from i → IsPlace v.order to j → i < j → ⊥
never_forward o places from to are h v e =
    let goal : OrderView → Type 0 = λ u. (i j : ℕ) → IsPlace u.order from i → IsPlace u.order to j → i < j → ⊥ in
    subst goal e (λ i j a b l.
    let high = place_of_node o.order places from i are a in
    let low = place_of_node o.order places to j are b in
    omega arith)

pub near_at : (o : OrderView) (places now : List ℕ) (seen : List Bool) (from to : ℕ) → ArePlaces o.order places → slice_index places to ≤ slice_index places from → slice_index places from < length o.order → now ≡ moved seen (slice_index places to) (slice_index places from) o.order → (v : OrderView) → o ≡ v → (i j k n : ℕ) → IsPlace v.order from i → IsPlace v.order to j → IsPlace v.order n k → IsPlace now n k ⊎ ((j ≤ k) × (k ≤ i))
near_at o places now seen from to are h within is v e =
    let goal : OrderView → Type 0 = λ u. (i j k n : ℕ) → IsPlace u.order from i → IsPlace u.order to j → IsPlace u.order n k → IsPlace now n k ⊎ ((j ≤ k) × (k ≤ i)) in
    subst goal e (λ i j k n a b c.
    let high = place_of_node o.order places from i are a in
    let low = place_of_node o.order places to j are b in
    elim (moved_near (slice_index places to) (slice_index places from) k n o.order seen h within c) [
      | inl there ↦ inl (subst (λ (z : List ℕ). IsPlace z n k) (sym is) there)
      | inr between ↦ inr (omega (arith, between.0), omega (arith, between.1))
    ])
