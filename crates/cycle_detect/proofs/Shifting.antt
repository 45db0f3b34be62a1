-- Parting a list in place, and telling nodes their places again.
use Rattle.std.proofs.Common.{◌≡◌, ◌≢◌, ℕ, ◌+◌, ◌-◌, ◌<◌, ◌≤◌, ◌⊎◌, inl, inr, Bool, true, false, not, List, [], ◌∷◌, ◌++◌, length, set, take, drop, ap, sym, ◌∙◌, subst, arith, append-nil, get_or}
use lib.Seq.{paste}
use Rattle.std.specs.Prelude.{Some, Contains, slice_index, slice_range, filter}
use Rattle.std.proofs.lemmas.Bool.{cases_lt}
use Rattle.std.proofs.lemmas.List.{get_or-set_same, get_or-set_other, get_or-drop, drop_all, drop-drop}
use Rattle.std.proofs.lemmas.List.Edits.{paste_all}
use Rattle.std.proofs.lemmas.List.Elements.{filter_more}
use Rattle.std.proofs.lemmas.Option.{slice_get_within, slice_get-get_or, get_or_from_slice_get}
use Rattle.dg_base.proofs.Lists.{get_append_cases, get_append_left, get_append_right, contains_place, place_of}
use Rattle.cycle_detect.specs.Orders.{IsPlace}
use Rattle.cycle_detect.specs.Parts.{ArePlaces, is_seen, parted, moved}
use Rattle.cycle_detect.proofs.Counting.{Distinct, distinct_once, once_distinct}
use Rattle.cycle_detect.proofs.Moving.{part_by, whole_distinct, whole_from, whole_long, split_three, front_long, mid_long, length_parts, in_parts, mid_zone, zone_mid, mid_has, mid_from, parts_from}

-- what was put aside is copied behind
pub parted_all : (seen : List Bool) (old now aside : List ℕ) (write n : ℕ) → take write now ≡ filter (is_seen seen) old → aside ≡ filter (λ k. not (is_seen seen k)) old → write + length aside ≡ length old → length now ≡ length old → n ≡ length aside → paste now write aside n ≡ parted seen old
parted_all seen old now aside write n front behind count long all =
    let e = paste_all now write aside n all in
    let none : drop (write + n) now ≡ [] = drop_all (write + n) now (omega arith) in
    e ∙ (ap (λ (l : List ℕ). take write now ++ (aside ++ l)) none ∙ (ap (λ (l : List ℕ). take write now ++ l) (append-nil aside) ∙ (ap (λ (l : List ℕ). l ++ aside) front ∙ ap (λ (l : List ℕ). filter (is_seen seen) old ++ l) behind)))

-- another one put aside, or not
pub aside_yes : (seen : List Bool) (old aside : List ℕ) (i x : ℕ) → i < length old → x ≡ get_or old i 0 → is_seen seen x ≡ true → aside ≡ filter (λ k. not (is_seen seen k)) (take i old) → aside ≡ filter (λ k. not (is_seen seen k)) (take (i + 1) old)
aside_yes seen old aside i x h e on is =
    let more = filter_more (λ k. not (is_seen seen k)) old i 0 h in
    let off : not (is_seen seen (get_or old i 0)) ≡ false = ap (λ (n : ℕ). not (is_seen seen n)) (sym e) ∙ ap (λ (b : Bool). not b) on in
    let short : filter (λ k. not (is_seen seen k)) (take (i + 1) old) ≡ filter (λ k. not (is_seen seen k)) (take i old) ++ [] = rw off at more in
    is ∙ sym (short ∙ append-nil (filter (λ k. not (is_seen seen k)) (take i old)))

pub aside_no : (seen : List Bool) (old aside : List ℕ) (i x : ℕ) → i < length old → x ≡ get_or old i 0 → is_seen seen x ≡ false → aside ≡ filter (λ k. not (is_seen seen k)) (take i old) → aside ++ x ∷ [] ≡ filter (λ k. not (is_seen seen k)) (take (i + 1) old)
aside_no seen old aside i x h e off is =
    let more = filter_more (λ k. not (is_seen seen k)) old i 0 h in
    let on : not (is_seen seen (get_or old i 0)) ≡ true = ap (λ (n : ℕ). not (is_seen seen n)) (sym e) ∙ ap (λ (b : Bool). not b) off in
    let long : filter (λ k. not (is_seen seen k)) (take (i + 1) old) ≡ filter (λ k. not (is_seen seen k)) (take i old) ++ (get_or old i 0 ∷ []) = rw on at more in
    ap (λ (l : List ℕ). l ++ x ∷ []) is ∙ (ap (λ (n : ℕ). filter (λ k. not (is_seen seen k)) (take i old) ++ n ∷ []) e ∙ sym long)

-- ---- places again

-- a node is told its place, and is not seen any more
pub inside_more : (order places : List ℕ) (seen : List Bool) (low at : ℕ) → length places ≡ length order → length seen ≡ length order → at < length order → ((k : ℕ) → k < length order → slice_index order k < length order) → ((i j : ℕ) → i < length order → j < length order → slice_index order i ≡ slice_index order j → i ≡ j) → ((k : ℕ) → low ≤ k → k < at → (slice_index places (slice_index order k) ≡ k) × (is_seen seen (slice_index order k) ≡ false)) → (k : ℕ) → low ≤ k → k < at + 1 → (slice_index (set places (slice_index order at) at) (slice_index order k) ≡ k) × (is_seen (set seen (slice_index order at) false) (slice_index order k) ≡ false)
inside_more order places seen low at long s_long h range once inside k a b =
    let x = slice_index order at in
    let r = range at h in
    elim (cases_lt k at) [
      | inl below ↦
          let other : slice_index order k ≢ x = λ e. let same = once k at (omega arith) h e in omega arith in
          let old = inside k a below in
          (get_or-set_other places x (slice_index order k) at 0 other ∙ old.0, get_or-set_other seen x (slice_index order k) false false other ∙ old.1)
      | inr not_below ↦
          let same : k ≡ at = omega arith in
          let goal : ℕ → Type 0 = λ n. (slice_index (set places x at) (slice_index order n) ≡ n) × (is_seen (set seen x false) (slice_index order n) ≡ false) in
          subst goal (sym same) (get_or-set_same places x at 0 (omega arith), get_or-set_same seen x false false (omega arith))
    ]

pub outside_more : (order places first : List ℕ) (seen began : List Bool) (low at : ℕ) → low ≤ at → ((n : ℕ) → ((k : ℕ) → low ≤ k → k < at → slice_index order k ≢ n) → (slice_index places n ≡ slice_index first n) × (is_seen seen n ≡ is_seen began n)) → (n : ℕ) → ((k : ℕ) → low ≤ k → k < at + 1 → slice_index order k ≢ n) → (slice_index (set places (slice_index order at) at) n ≡ slice_index first n) × (is_seen (set seen (slice_index order at) false) n ≡ is_seen began n)
outside_more order places first seen began low at l outside n apart =
    let x = slice_index order at in
    let other : n ≢ x = λ e. apart at l (omega arith) (sym e) in
    let old = outside n (λ k a b. apart k a (omega arith)) in
    (get_or-set_other places x n at 0 other ∙ old.0, get_or-set_other seen x n false false other ∙ old.1)

-- ---- the whole move

placed_distinct : (order places : List ℕ) → ArePlaces order places → Distinct order
placed_distinct order places are =
    distinct_once order (λ i j n a b.
    let p = get_or_from_slice_get order i n 0 a in
    let q = get_or_from_slice_get order j n 0 b in
    let e = ap (λ (k : ℕ). slice_index places k) (p ∙ sym q) in
    let f = are.forth i (slice_get_within order i n a) in
    let g = are.forth j (slice_get_within order j n b) in
    omega arith)

moved_distinct : (order places : List ℕ) (seen : List Bool) (low high : ℕ) → ArePlaces order places → low ≤ high → Distinct (moved seen low high order)
moved_distinct order places seen low high are h =
    let front = take low order in
    let mid = slice_range order low (high + 1) in
    let back = drop (high + 1) order in
    whole_distinct (is_seen seen) front mid back (subst (λ (z : List ℕ). Distinct z) (split_three order low high h) (placed_distinct order places are))

pub moved_long : (order : List ℕ) (seen : List Bool) (low high : ℕ) → low ≤ high → length (moved seen low high order) ≡ length order
moved_long order seen low high h =
    whole_long (is_seen seen) (take low order) (slice_range order low (high + 1)) (drop (high + 1) order) ∙ ap (λ (z : List ℕ). length z) (sym (split_three order low high h))

-- after a move each node is one of the nodes
pub moved_range : (order places : List ℕ) (seen : List Bool) (low high : ℕ) → ArePlaces order places → low ≤ high → (k : ℕ) → k < length (moved seen low high order) → slice_index (moved seen low high order) k < length (moved seen low high order)
moved_range order places seen low high are h k l =
    let long = moved_long order seen low high h in
    let there = slice_get-get_or (moved seen low high order) k 0 l in
    let m = whole_from (is_seen seen) (take low order) (slice_range order low (high + 1)) (drop (high + 1) order) (slice_index (moved seen low high order) k) (contains_place (moved seen low high order) k (slice_index (moved seen low high order) k) there) in
    let p = place_of order (slice_index (moved seen low high order) k) (subst (λ (z : List ℕ). Contains z (slice_index (moved seen low high order) k)) (sym (split_three order low high h)) m) in
    let e = get_or_from_slice_get order p.0 (slice_index (moved seen low high order) k) 0 p.1 in
    let r = are.range p.0 (slice_get_within order p.0 (slice_index (moved seen low high order) k) p.1) in
    omega arith

pub moved_once : (order places : List ℕ) (seen : List Bool) (low high : ℕ) → ArePlaces order places → low ≤ high → (i j : ℕ) → i < length (moved seen low high order) → j < length (moved seen low high order) → slice_index (moved seen low high order) i ≡ slice_index (moved seen low high order) j → i ≡ j
moved_once order places seen low high are h i j a b e =
    let now = moved seen low high order in
    let once = once_distinct now (moved_distinct order places seen low high are h) in
    let p = slice_get-get_or now i 0 a in
    let q = slice_get-get_or now j 0 b in
    once i j (slice_index now i) p (q ∙ ap (λ (k : ℕ). Some k) (sym e))

-- a node between the places stood between them
between_was : (order : List ℕ) (seen : List Bool) (low high k n : ℕ) → low ≤ k → k ≤ high → high < length order → IsPlace (moved seen low high order) n k → (m : ℕ) × (low ≤ m) × (m ≤ high) × IsPlace order n m
between_was order seen low high k n a b c e =
    let front = take low order in
    let mid = slice_range order low (high + 1) in
    let back = drop (high + 1) order in
    let test = is_seen seen in
    let f = front_long order low high (omega arith) c in
    let m = mid_long order low high (omega arith) c in
    let p_long = length_parts test mid in
    let z = zone_mid front (part_by test mid) back k n e (omega arith) (omega arith) in
    let p = place_of mid n (parts_from test mid n (contains_place (part_by test mid) z.0 n z.2)) in
    let q = mid_from order low high p.0 n (omega arith) c p.1 in
    (low + p.0, omega arith, q.0, q.1)

-- a node before or behind the places stands where it stood
outside_was : (order : List ℕ) (seen : List Bool) (low high k n : ℕ) → low ≤ high → high < length order → (k < low) ⊎ (high < k) → IsPlace (moved seen low high order) n k → IsPlace order n k
outside_was order seen low high k n h c out e =
    let front = take low order in
    let mid = slice_range order low (high + 1) in
    let back = drop (high + 1) order in
    let test = is_seen seen in
    let f = front_long order low high h c in
    let m = mid_long order low high h c in
    let p_long = length_parts test mid in
    let whole : IsPlace (front ++ (mid ++ back)) n k = elim (get_append_cases front (part_by test mid ++ back) k n e) [
      | inl a ↦ get_append_left front (mid ++ back) k n a
      | inr r ↦ elim (get_append_cases (part_by test mid) back r.0 n r.2) [
        | inl a ↦ let i = slice_get_within (part_by test mid) r.0 n a in absurd (elim out [ inl l ↦ omega (arith, r.1) | inr l ↦ omega (arith, r.1) ])
        | inr q ↦
            let place : r.0 ≡ length mid + q.0 = omega (arith, q.1) in
            get_append_right front (mid ++ back) k r.0 r.1 ∙ (get_append_right mid back r.0 q.0 place ∙ q.2)
      ]
    ] in
    subst (λ (z : List ℕ). IsPlace z n k) (sym (split_three order low high h)) whole

-- the places after a move, where those between were told theirs
pub moved_placed : (order places now_places : List ℕ) (seen now_seen : List Bool) (low high : ℕ) → ArePlaces order places → low ≤ high → high < length order → length now_places ≡ length places → ((k : ℕ) → low ≤ k → k ≤ high → (slice_index now_places (slice_index (moved seen low high order) k) ≡ k) × (is_seen now_seen (slice_index (moved seen low high order) k) ≡ false)) → ((n : ℕ) → ((k : ℕ) → low ≤ k → k ≤ high → slice_index (moved seen low high order) k ≢ n) → (slice_index now_places n ≡ slice_index places n) × (is_seen now_seen n ≡ is_seen seen n)) → ArePlaces (moved seen low high order) now_places
moved_placed order places now_places seen now_seen low high are h c n_long inside outside =
    let now = moved seen low high order in
    let long = moved_long order seen low high h in
    let once = moved_once order places seen low high are h in
    let stays : (k : ℕ) → k < length now → (k < low) ⊎ (high < k) → slice_index now_places (slice_index now k) ≡ k = λ k l out.
    let there = slice_get-get_or now k 0 l in
    let was = outside_was order seen low high k (slice_index now k) h c out there in
    let read = get_or_from_slice_get order k (slice_index now k) 0 was in
    let apart = outside (slice_index now k) (λ j a b e. let same = once j k (omega arith) l e in elim out [ inl x ↦ omega arith | inr x ↦ omega arith ]) in
    apart.0 ∙ (ap (λ (n : ℕ). slice_index places n) (sym read) ∙ are.forth k (omega arith)) in
    record {
      long = n_long ∙ (are.long ∙ sym long);
      range = moved_range order places seen low high are h;
      forth = λ k l. elim (cases_lt k low) [
        | inl x ↦ stays k l (inl x)
        | inr x ↦ elim (cases_lt high k) [
          | inl y ↦ stays k l (inr y)
          | inr y ↦ (inside k x y).0
        ]
      ];
    }

-- who stood between the places is not seen any more
pub moved_unseen : (order : List ℕ) (seen now_seen : List Bool) (low high : ℕ) → low ≤ high → high < length order → ((k : ℕ) → low ≤ k → k ≤ high → is_seen now_seen (slice_index (moved seen low high order) k) ≡ false) → (k : ℕ) → low ≤ k → k ≤ high → is_seen now_seen (slice_index order k) ≡ false
moved_unseen order seen now_seen low high h c inside k a b =
    let front = take low order in
    let mid = slice_range order low (high + 1) in
    let back = drop (high + 1) order in
    let test = is_seen seen in
    let n = slice_index order k in
    let f = front_long order low high h c in
    let m = mid_long order low high h c in
    let p_long = length_parts test mid in
    let here = slice_get-get_or order k 0 (omega arith) in
    let p = mid_has order low high k n a b c here in
    let q = in_parts test mid p.0 n p.2 in
    let there = mid_zone front (part_by test mid) back q.0 n q.1 in
    let i = slice_get_within (part_by test mid) q.0 n q.1 in
    let read = get_or_from_slice_get (moved seen low high order) (length front + q.0) n 0 there in
    let off = inside (length front + q.0) (omega arith) (omega arith) in
    ap (λ (j : ℕ). is_seen now_seen j) (sym read) ∙ off

-- who is seen afterwards was seen
pub moved_seen : (order places now_places : List ℕ) (seen now_seen : List Bool) (low high : ℕ) → low ≤ high → ((k : ℕ) → low ≤ k → k ≤ high → (slice_index now_places (slice_index order k) ≡ k) × (is_seen now_seen (slice_index order k) ≡ false)) → ((n : ℕ) → ((k : ℕ) → low ≤ k → k ≤ high → slice_index order k ≢ n) → (slice_index now_places n ≡ slice_index places n) × (is_seen now_seen n ≡ is_seen seen n)) → (n : ℕ) → is_seen now_seen n ≡ true → is_seen seen n ≡ true
moved_seen order places now_places seen now_seen low high h inside outside n e =
    sym (outside n (λ k a b same. let off = (inside k a b).1 in let on = ap (λ (j : ℕ). is_seen now_seen j) same ∙ e in let bad : false ≡ true = sym off ∙ on in let fails : ⊥ = cc in fails)).1 ∙ e

-- ---- as the code reads them

-- a write to the part between two places
pub put_moved : (order : List ℕ) (seen : List Bool) (low high : ℕ) → low ≤ high → take low order ++ (parted seen (slice_range order low (high + 1)) ++ drop (high + 1 - low) (drop low order)) ≡ moved seen low high order
put_moved order seen low high h =
    let e = drop-drop (high + 1 - low) low order in
    let n : low + (high + 1 - low) ≡ high + 1 = omega arith in
    ap (λ (z : List ℕ). take low order ++ (parted seen (slice_range order low (high + 1)) ++ z)) (e ∙ ap (λ (k : ℕ). drop k order) n)

-- what was not looked at yet is as it was
pub rest_read : (xs ys : List ℕ) (i : ℕ) → drop i ys ≡ drop i xs → get_or ys i 0 ≡ get_or xs i 0
rest_read xs ys i e =
    let z : i + 0 ≡ i = omega arith in
    let a = get_or-drop i ys 0 0 in
    let b = get_or-drop i xs 0 0 in
    ap (λ (k : ℕ). get_or ys k 0) (sym z) ∙ (sym a ∙ (ap (λ (l : List ℕ). get_or l 0 0) e ∙ (b ∙ ap (λ (k : ℕ). get_or xs k 0) z)))
