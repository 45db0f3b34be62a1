-- A search backward: its visits under one more, and what it has looked at.
use Rattle.std.proofs.Common.{◌≡◌, ℕ, zero, suc, ◌+◌, ◌-◌, ◌<◌, ◌≤◌, ◌⊎◌, inl, inr, Bool, true, false, cond, List, [], ◌∷◌, ◌++◌, length, set, take, refl, ap, sym, ◌∙◌, subst, arith, get_or, eqb}
use Rattle.std.specs.Prelude.{Option, Some, None, slice_get, slice_index, count_by}
use Rattle.std.proofs.lemmas.Bool.{cases_eq, cases_lt, ne_eqb, eq-eqb}
use Rattle.std.proofs.lemmas.List.{length_push, get_or-set_same, get_or-set_other, get_or_past}
use Rattle.std.proofs.Math.ListN.{length-set}
use Rattle.std.proofs.lemmas.List.Sums.{sum_by-cons, sum_by-set, sum_by-take-le, sum_by_more, count_by-le-length, count_by_more_yes, count_by_more_no}
use Rattle.std.proofs.lemmas.Option.{none-some, same_Some, slice_get_within, slice_get-get_or, get_or_from_slice_get}
use Rattle.dg_base.proofs.Lists.{get_append_left, get_push_cases}
use Rattle.cycle_detect.specs.declared.search.Visit.{Visit}
use Rattle.cycle_detect.specs.Orders.{Held}
use Rattle.cycle_detect.specs.Parts.{IsLastInto, AreVisits, is_seen, enters, looked}

-- ---- flags

pub seen_same : (seen : List Bool) (x : ℕ) (b : Bool) → x < length seen → is_seen (set seen x b) x ≡ b
seen_same seen x b h = get_or-set_same seen x b false h

pub seen_grows : (seen : List Bool) (x n : ℕ) → x < length seen → is_seen seen n ≡ true → is_seen (set seen x true) n ≡ true
seen_grows seen x n h e =
    elim (cases_eq n x) [
      | inl same ↦ subst (λ (k : ℕ). is_seen (set seen x true) k ≡ true) (sym same) (seen_same seen x true h)
      | inr other ↦ get_or-set_other seen x n true false other ∙ e
    ]

seen_cases : (seen : List Bool) (x n : ℕ) → is_seen (set seen x true) n ≡ true → (n ≡ x) ⊎ (is_seen seen n ≡ true)
seen_cases seen x n e =
    elim (cases_eq n x) [
      | inl same ↦ inl same
      | inr other ↦ inr (sym (get_or-set_other seen x n true false other) ∙ e)
    ]

-- a node that is seen has a flag
pub seen_within : (seen : List Bool) (n : ℕ) → is_seen seen n ≡ true → n < length seen
seen_within seen n e =
    elim (cases_lt n (length seen)) [
      | inl h ↦ h
      | inr past ↦ let bad : false ≡ true = sym (get_or_past seen n false past) ∙ e in cc
    ]

count_unseen : (seen : List Bool) → ((n : ℕ) → is_seen seen n ≡ false) → count_by (λ b. b) seen ≡ 0
count_unseen [] none = refl
count_unseen (b ∷ bs) none =
    let rest = count_unseen bs (λ n. none (suc n)) in
    let off : ◌≡◌ {A = ℕ} (cond b 1 0) 0 = ap (λ (z : Bool). cond z 1 0) (none 0) in
    omega (arith, sum_by-cons (λ z. cond z 1 0) b bs, off, rest)

count_set : (seen : List Bool) (x : ℕ) → x < length seen → is_seen seen x ≡ false → count_by (λ b. b) (set seen x true) ≡ count_by (λ b. b) seen + 1
count_set seen x h e =
    let off : ◌≡◌ {A = ℕ} (cond (get_or seen x false) 1 0) 0 = ap (λ (z : Bool). cond z 1 0) e in
    omega (arith, sum_by-set (λ z. cond z 1 0) seen x true false h, off)

-- ---- visits

-- there is room for a node that is not seen
pub visits_room : (edges : List (ℕ × ℕ)) (places : List ℕ) (low from : ℕ) (visits : List Visit) (seen : List Bool) (x : ℕ) → AreVisits edges places low from visits seen → x < length seen → is_seen seen x ≡ false → length visits < length seen
visits_room edges places low from visits seen x are h e =
    omega (arith, are.count, count_set seen x h e, count_by-le-length (λ b. b) (set seen x true), length-set seen x true)

pub visits_few : (edges : List (ℕ × ℕ)) (places : List ℕ) (low from : ℕ) (visits : List Visit) (seen : List Bool) → AreVisits edges places low from visits seen → length visits ≤ length seen
visits_few edges places low from visits seen are = omega (arith, are.count, count_by-le-length (λ b. b) seen)

-- the search begins
pub visits_start : (edges : List (ℕ × ℕ)) (places : List ℕ) (low from : ℕ) (seen : List Bool) (v : Visit) → v.node ≡ from → from < length seen → low ≤ slice_index places from → ((n : ℕ) → is_seen seen n ≡ false) → AreVisits edges places low from (v ∷ []) (set seen from true)
visits_start edges places low from seen v at h back none = record {
  some = omega arith;
  root = λ u e. subst (λ (z : Visit). z.node ≡ from) (same_Some v u e) at;
  tree = λ i u pos e. only i u pos e;
  within = λ i u e. let same = alone i u e in subst (λ (z : Visit). (z.node < length (set seen from true)) × (low ≤ slice_index places z.node) × (slice_index places z.node ≤ slice_index places from)) same (subst (λ (n : ℕ). (n < length (set seen from true)) × (low ≤ slice_index places n) × (slice_index places n ≤ slice_index places from)) (sym at) (omega (arith, length-set seen from true), back, omega arith));
  marked = λ i u e. subst (λ (z : Visit). is_seen (set seen from true) z.node ≡ true) (alone i u e) (subst (λ (n : ℕ). is_seen (set seen from true) n ≡ true) (sym at) (seen_same seen from true h));
  listed = λ n e. elim (seen_cases seen from n e) [
    | inl same ↦ (0, (v, refl, at ∙ sym same))
    | inr old ↦ let bad : false ≡ true = sym (none n) ∙ old in cc
  ];
  once = λ i j u w e g s. let a = first i u e in let b = first j w g in omega arith;
  count = let a = count_set seen from h (none from) in let b = count_unseen seen none in omega arith;
}
  where
    first : (i : ℕ) (u : Visit) → slice_get (v ∷ []) i ≡ Some u → i ≡ 0
    first zero u e = refl
    first (suc i) u e = absurd (none-some u e)

    alone : (i : ℕ) (u : Visit) → slice_get (v ∷ []) i ≡ Some u → v ≡ u
    alone zero u e = same_Some v u e
    alone (suc i) u e = absurd (none-some u e)

    only : (i : ℕ) (u : Visit) → 0 < i → slice_get (v ∷ []) i ≡ Some u → (w : Visit) × (u.next < i) × (slice_get (v ∷ []) u.next ≡ Some w) × Held edges u.node w.node
    only zero u pos e = absurd (omega arith)
    only (suc i) u pos e = absurd (none-some u e)

-- one more node
pub visits_push : (edges : List (ℕ × ℕ)) (places : List ℕ) (low from : ℕ) (visits : List Visit) (seen : List Bool) (x at : ℕ) (w : Visit) → AreVisits edges places low from visits seen → slice_get visits at ≡ Some w → Held edges x w.node → x < length seen → low ≤ slice_index places x → slice_index places x < slice_index places w.node → is_seen seen x ≡ false → AreVisits edges places low from (visits ++ record { node = x; next = at } ∷ []) (set seen x true)
visits_push edges places low from visits seen x at w are here held h back forth off =
    let new : Visit = record { node = x; next = at } in
    let more = visits ++ new ∷ [] in
    let at_in = slice_get_within visits at w here in
    let old_seen : (i : ℕ) (v : Visit) → slice_get visits i ≡ Some v → v.node ≡ x → ⊥ = λ i v e s. let on = are.marked i v e in let same = ap (λ (n : ℕ). is_seen seen n) s in let bad : true ≡ false = sym on ∙ (same ∙ off) in cc in
    record {
      some = omega (arith, length_push visits new);
      root = λ v e. elim (get_push_cases visits new 0 v e) [
        | inl o ↦ are.root v o
        | inr r ↦ absurd (omega (arith, are.some, r.0))
      ];
      tree = λ i v pos e. elim (get_push_cases visits new i v e) [
        | inl o ↦ let t = are.tree i v pos o in (t.0, t.1, get_append_left visits (new ∷ []) v.next t.0 t.2, t.3)
        | inr r ↦ subst (λ (z : Visit). (u : Visit) × (z.next < i) × (slice_get more z.next ≡ Some u) × Held edges z.node u.node) (sym r.1) (w, omega (arith, r.0), get_append_left visits (new ∷ []) at w here, held)
      ];
      within = λ i v e. elim (get_push_cases visits new i v e) [
        | inl o ↦ let k = are.within i v o in (omega (arith, k.0, length-set seen x true), k.1, k.2)
        | inr r ↦ let k = are.within at w here in subst (λ (z : Visit). (z.node < length (set seen x true)) × (low ≤ slice_index places z.node) × (slice_index places z.node ≤ slice_index places from)) (sym r.1) (omega (arith, length-set seen x true), back, omega (arith, k.2))
      ];
      marked = λ i v e. elim (get_push_cases visits new i v e) [
        | inl o ↦ seen_grows seen x v.node h (are.marked i v o)
        | inr r ↦ subst (λ (z : Visit). is_seen (set seen x true) z.node ≡ true) (sym r.1) (seen_same seen x true h)
      ];
      listed = λ n e. elim (seen_cases seen x n e) [
        | inl same ↦ (length visits, (new, last_one visits new, sym same))
        | inr old ↦ let l = are.listed n old in (l.0, (l.1.0, get_append_left visits (new ∷ []) l.0 l.1.0 l.1.1, l.1.2))
      ];
      once = λ i j v u e g s. elim (get_push_cases visits new i v e) [
        | inl o ↦ elim (get_push_cases visits new j u g) [
          | inl p ↦ are.once i j v u o p s
          | inr q ↦ absurd (old_seen i v o (s ∙ ap (λ (z : Visit). z.node) q.1))
        ]
        | inr r ↦ elim (get_push_cases visits new j u g) [
          | inl p ↦ absurd (old_seen j u p (sym s ∙ ap (λ (z : Visit). z.node) r.1))
          | inr q ↦ omega (arith, r.0, q.0)
        ]
      ];
      count = omega (arith, are.count, count_set seen x h off, length_push visits new);
    }
  where
    last_one : (xs : List Visit) (y : Visit) → slice_get (xs ++ y ∷ []) (length xs) ≡ Some y
    last_one [] y = refl
    last_one (z ∷ zs) y = last_one zs y

-- ---- what was looked at

-- how many edges are left where the next one to look at is this
abbrev pub after : Option ℕ → ℕ
after None = 0
after (Some k) = suc k

-- between two places no edge enters the node
count_flat : (edges : List (ℕ × ℕ)) (n a d : ℕ) → a + d ≤ length edges → ((j x : ℕ) → a ≤ j → j < a + d → slice_get edges j ≡ Some (x, n) → ⊥) → count_by (enters n) (take (a + d) edges) ≡ count_by (enters n) (take a edges)
count_flat edges n a zero h none = let e : a + 0 ≡ a = omega arith in ap (λ (k : ℕ). count_by (enters n) (take k edges)) e
count_flat edges n a (suc d) h none =
    let rest = count_flat edges n a d (omega arith) (λ j x l u e. none j x l (omega arith) e) in
    let e = slice_get-get_or edges (a + d) (0, 0) (omega arith) in
    let p : ℕ × ℕ = get_or edges (a + d) (0, 0) in
    let off : eqb p.1 n ≡ false = ne_eqb p.1 n (λ same. none (a + d) p.0 (omega arith) (omega arith) (e ∙ ap (λ (k : ℕ). Some (p.0, k)) same)) in
    let step = count_by_more_no (enters n) edges (a + d) (0, 0) (omega arith) off in
    let same : a + suc d ≡ a + d + 1 = omega arith in
    ap (λ (k : ℕ). count_by (enters n) (take k edges)) same ∙ (step ∙ rest)

-- the edges into a node below a place are those up to its link
pub count_after : (edges : List (ℕ × ℕ)) (n below : ℕ) (link : Option ℕ) → below ≤ length edges → IsLastInto edges n below link → count_by (enters n) (take below edges) ≡ count_by (enters n) (take (after link) edges)
count_after edges n below None h is =
    let e : 0 + below ≡ below = omega arith in
    let flat = count_flat edges n 0 below (omega arith) (λ j x l u g. let f = is.last j x (omega arith) g in none-some f.0 f.1) in
    ap (λ (i : ℕ). count_by (enters n) (take i edges)) (sym e) ∙ flat
count_after edges n below (Some k) h is =
    let f = is.found k refl in
    let d = below - suc k in
    let e : suc k + d ≡ below = omega (arith, f.0) in
    let flat = count_flat edges n (suc k) d (omega arith) (λ j x l u g. let m = is.last j x (omega arith) g in let same : k ≡ m.0 = same_Some k m.0 m.1 in absurd (omega (arith, m.2))) in
    ap (λ (i : ℕ). count_by (enters n) (take i edges)) (sym e) ∙ flat

-- one edge is looked at
pub count_link : (edges : List (ℕ × ℕ)) (n k x : ℕ) → slice_get edges k ≡ Some (x, n) → count_by (enters n) (take (suc k) edges) ≡ count_by (enters n) (take k edges) + 1
count_link edges n k x e =
    let h = slice_get_within edges k (x, n) e in
    let g = get_or_from_slice_get edges k (x, n) (0, 0) e in
    let on : enters n (get_or edges k (0, 0)) ≡ true = ap (λ (p : ℕ × ℕ). enters n p) g ∙ eq-eqb n n refl in
    let same : suc k ≡ k + 1 = omega arith in
    ap (λ (i : ℕ). count_by (enters n) (take i edges)) same ∙ count_by_more_yes (enters n) edges k (0, 0) h on

-- a list that keeps another's items begins with it
pub take_kept : {X : Type 0} (xs ys : List X) (n : ℕ) → n ≤ length xs → ((i : ℕ) (v : X) → slice_get xs i ≡ Some v → slice_get ys i ≡ Some v) → take n ys ≡ take n xs
take_kept xs ys zero h same = refl
take_kept [] ys (suc n) h same = absurd (omega arith)
take_kept (x ∷ xs) [] (suc n) h same = absurd (none-some x (same 0 x refl))
take_kept (x ∷ xs) (y ∷ ys) (suc n) h same =
    let head : y ≡ x = same_Some y x (same 0 x refl) in
    let rest = take_kept xs ys n (omega arith) (λ i v e. same (suc i) v e) in cc

-- what was looked at grows by one visit
pub looked_more : (edges : List (ℕ × ℕ)) (was now : List Visit) (at : ℕ) (v : Visit) → slice_get was at ≡ Some v → ((i : ℕ) (u : Visit) → slice_get was i ≡ Some u → slice_get now i ≡ Some u) → looked edges (take (at + 1) now) ≡ looked edges (take at was) + count_by (enters v.node) edges
looked_more edges was now at v e kept =
    let h = slice_get_within was at v e in
    let front = take_kept was now (at + 1) (omega arith) kept in
    let step = sum_by_more (λ (u : Visit). count_by (enters u.node) edges) was at v h in
    let read : get_or was at v ≡ v = get_or_from_slice_get was at v v e in
    ap (λ (z : List Visit). looked edges z) front ∙ (step ∙ ap (λ (u : Visit). looked edges (take at was) + count_by (enters u.node) edges) read)

pub looked_all : (edges : List (ℕ × ℕ)) (visits : List Visit) (at : ℕ) → looked edges (take at visits) ≤ looked edges visits
looked_all edges visits at = sum_by-take-le (λ (u : Visit). count_by (enters u.node) edges) visits at
