-- A search's steps, as the code takes them.
use Rattle.std.proofs.Common.{◌≡◌, ◌≢◌, ℕ, suc, ◌+◌, ◌<◌, ◌≤◌, ◌⊎◌, inl, inr, Bool, true, false, List, [], ◌∷◌, ◌++◌, length, set, take, refl, ap, sym, ◌∙◌, subst, arith}
use Rattle.std.specs.Prelude.{Option, Some, None, slice_get, slice_index, count_by}
use Rattle.std.proofs.lemmas.Bool.{cases_lt, cases_eq, false_from_ne_true}
use Rattle.std.proofs.lemmas.List.{take_all, get_or-set_same, get_or-set_other}
use Rattle.std.proofs.lemmas.Option.{same_Some, slice_get_within}
use Rattle.dg_base.proofs.Lists.{get_there, contains_place, one_answer}
use Rattle.cycle_detect.specs.declared.search.Visit.{Visit}
use Rattle.cycle_detect.specs.Orders.{Held}
use Rattle.cycle_detect.specs.Parts.{IsLastInto, AreVisits, IsVisitOf, IsClosedAt, is_seen, enters}
use Rattle.cycle_detect.proofs.Visiting.{after, count_after, count_link, visits_push}

-- a node from which an edge leads into a visited one
pub visits_reach : (edges : List (ℕ × ℕ)) (places : List ℕ) (low from : ℕ) (visits : List Visit) (seen : List Bool) (x node at : ℕ) → AreVisits edges places low from visits seen → IsVisitOf visits at node → Held edges x node → x < length seen → low ≤ slice_index places x → slice_index places x < slice_index places node → is_seen seen x ≡ false → AreVisits edges places low from (visits ++ record { node = x; next = at } ∷ []) (set seen x true)
visits_reach edges places low from visits seen x node at are here held h back forth off =
    visits_push edges places low from visits seen x at here.0 are here.1 (subst (λ (n : ℕ). Held edges x n) (sym here.2) held) h back (subst (λ (n : ℕ). slice_index places x < slice_index places n) (sym here.2) forth) off

-- a link leads to an edge
pub link_held : (edges : List (ℕ × ℕ)) (node id x y : ℕ) (next : Option ℕ) → ((k : ℕ) → next ≡ Some k → (z : ℕ) × (slice_get edges k ≡ Some (z, node))) → next ≡ Some id → slice_get edges id ≡ Some (x, y) → (y ≡ node) × (slice_get edges id ≡ Some (x, node)) × Held edges x node
link_held edges node id x y next link is e =
    let l = link id is in
    let same : ◌≡◌ {A = ℕ × ℕ} (l.0, node) (x, y) = one_answer (slice_get edges id) (l.0, node) (x, y) l.1 e in
    let y_is : y ≡ node = sym (ap (λ (p : ℕ × ℕ). p.1) same) in
    let there : slice_get edges id ≡ Some (x, node) = subst (λ (n : ℕ). slice_get edges id ≡ Some (x, n)) y_is e in
    (y_is, there, contains_place edges id (x, node) there)

-- the measure falls
pub link_smaller : (edges : List (ℕ × ℕ)) (node id : ℕ) (next link : Option ℕ) → next ≡ Some id → IsLastInto edges node id link → after link < after next
link_smaller edges node id next link is last =
    let top : after next ≡ suc id = ap (λ (o : Option ℕ). after o) is in
    let low = by_link link last in
    omega arith
  where
    by_link : (l : Option ℕ) → IsLastInto edges node id l → after l < suc id
    by_link None w = omega arith
    by_link (Some k) w = let f = w.found k refl in omega (arith, f.0)

-- the link of an edge
pub link_before : (edges : List (ℕ × ℕ)) (node id x y : ℕ) (link : Option ℕ) → y ≡ node → slice_get edges id ≡ Some (x, y) → ((a b : ℕ) → slice_get edges id ≡ Some (a, b) → IsLastInto edges b id link) → IsLastInto edges node id link
link_before edges node id x y link same e is = subst (λ (n : ℕ). IsLastInto edges n id link) same (is x y e)

-- where an edge was looked at, those before it are left
pub left_more : (edges : List (ℕ × ℕ)) (node id : ℕ) (next link : Option ℕ) (Wanted Done : ℕ → Type 0) → next ≡ Some id → IsLastInto edges node id link → ((x : ℕ) → slice_get edges id ≡ Some (x, node) → Wanted x → Done x) → ((j x : ℕ) → slice_get edges j ≡ Some (x, node) → Wanted x → Done x ⊎ ((k : ℕ) × (next ≡ Some k) × (j ≤ k))) → (j x : ℕ) → slice_get edges j ≡ Some (x, node) → Wanted x → Done x ⊎ ((k : ℕ) × (link ≡ Some k) × (j ≤ k))
left_more edges node id next link Wanted Done is last here left j x e w =
    elim (left j x e w) [
      | inl d ↦ inl d
      | inr r ↦
          let same : r.0 ≡ id = same_Some r.0 id (sym r.1 ∙ is) in
          elim (cases_lt j id) [
            | inl h ↦ inr (last.last j x h e)
            | inr h ↦
                let at : j ≡ id = omega (arith, r.2) in
                inl (here x (subst (λ (k : ℕ). slice_get edges k ≡ Some (x, node)) at e) w)
          ]
    ]

-- at the beginning all are left
pub left_start : (edges : List (ℕ × ℕ)) (node : ℕ) (link : Option ℕ) → IsLastInto edges node (length edges) link → (j x : ℕ) → slice_get edges j ≡ Some (x, node) → (k : ℕ) × (link ≡ Some k) × (j ≤ k)
left_start edges node link is j x e = is.last j x (slice_get_within edges j (x, node) e) e

-- one edge more was looked at
pub ticks_more : (edges : List (ℕ × ℕ)) (node id x steps start : ℕ) (next link : Option ℕ) → next ≡ Some id → slice_get edges id ≡ Some (x, node) → IsLastInto edges node id link → steps + count_by (enters node) (take (after next) edges) ≡ start + count_by (enters node) edges → steps + 1 + count_by (enters node) (take (after link) edges) ≡ start + count_by (enters node) edges
ticks_more edges node id x steps start next link is e last h =
    let top : count_by (enters node) (take (after next) edges) ≡ count_by (enters node) (take (suc id) edges) = ap (λ (o : Option ℕ). count_by (enters node) (take (after o) edges)) is in
    let one = count_link edges node id x e in
    let rest = count_after edges node id link (omega (arith, slice_get_within edges id (x, node) e)) last in
    omega arith

pub ticks_start : (edges : List (ℕ × ℕ)) (node : ℕ) (link : Option ℕ) → IsLastInto edges node (length edges) link → count_by (enters node) (take (after link) edges) ≡ count_by (enters node) edges
ticks_start edges node link is =
    let e = count_after edges node (length edges) link (omega arith) is in
    sym e ∙ ap (λ (l : List (ℕ × ℕ)). count_by (enters node) l) (take_all (length edges) edges (omega arith))

-- ---- the walk over the visits

-- a node whose edges were all looked at
pub done_more : (edges : List (ℕ × ℕ)) (places : List ℕ) (low at to node : ℕ) (visits now : List Visit) (seen seen_now : List Bool) → ((i : ℕ) (v : Visit) → i < at → slice_get visits i ≡ Some v → IsClosedAt edges places low seen v.node × (v.node ≢ to)) → IsVisitOf visits at node → node ≢ to → IsClosedAt edges places low seen_now node → ((n : ℕ) → is_seen seen n ≡ true → is_seen seen_now n ≡ true) → ((i : ℕ) (v : Visit) → slice_get visits i ≡ Some v → slice_get now i ≡ Some v) → (i : ℕ) (v : Visit) → i < at + 1 → slice_get now i ≡ Some v → IsClosedAt edges places low seen_now v.node × (v.node ≢ to)
done_more edges places low at to node visits now seen seen_now done here other closed grown kept i v h e =
    let within = slice_get_within visits at here.0 here.1 in
    let old = get_there visits i (omega arith) in
    let same : old.0 ≡ v = one_answer (slice_get now i) old.0 v (kept i old.0 old.1) e in
    let goal : Visit → Type 0 = λ u. IsClosedAt edges places low seen_now u.node × (u.node ≢ to) in
    elim (cases_lt i at) [
      | inl below ↦
          let d = done i old.0 below old.1 in
          subst goal same (λ x m l. grown x (d.0 x m l), d.1)
      | inr not_below ↦
          let place : i ≡ at = omega arith in
          let at_i : slice_get visits i ≡ Some here.0 = subst (λ (k : ℕ). slice_get visits k ≡ Some here.0) (sym place) here.1 in
          let one : here.0 ≡ old.0 = one_answer (slice_get visits i) here.0 old.0 at_i old.1 in
          let by_node : goal here.0 = subst (λ (n : ℕ). IsClosedAt edges places low seen_now n × (n ≢ to)) (sym here.2) (closed, other) in
          subst goal same (subst goal one by_node)
    ]

-- all were looked at
pub all_closed : (edges : List (ℕ × ℕ)) (places : List ℕ) (low from at to : ℕ) (visits : List Visit) (seen : List Bool) → AreVisits edges places low from visits seen → length visits ≤ at → ((i : ℕ) (v : Visit) → i < at → slice_get visits i ≡ Some v → IsClosedAt edges places low seen v.node × (v.node ≢ to)) → ((y : ℕ) → is_seen seen y ≡ true → IsClosedAt edges places low seen y) × (is_seen seen to ≡ false)
all_closed edges places low from at to visits seen are all done = (
  λ y e.
      let v = are.listed y e in
      let h = slice_get_within visits v.0 v.1.0 v.1.1 in
      subst (λ (n : ℕ). IsClosedAt edges places low seen n) v.1.2 (done v.0 v.1.0 (omega arith) v.1.1).0,
  false_from_ne_true (is_seen seen to) (λ e.
      let v = are.listed to e in
      let h = slice_get_within visits v.0 v.1.0 v.1.1 in
      (done v.0 v.1.0 (omega arith) v.1.1).1 v.1.2),
)

-- one visit more is forgotten
pub forget_more : (visits : List Visit) (seen began : List Bool) (i : ℕ) (v : Visit) → slice_get visits i ≡ Some v → v.node < length seen → ((n : ℕ) → is_seen seen n ≡ true → (is_seen began n ≡ true) × ((j : ℕ) (u : Visit) → j < i → slice_get visits j ≡ Some u → u.node ≢ n)) → (n : ℕ) → is_seen (set seen v.node false) n ≡ true → (is_seen began n ≡ true) × ((j : ℕ) (u : Visit) → j < i + 1 → slice_get visits j ≡ Some u → u.node ≢ n)
forget_more visits seen began i v here h left n e =
    elim (cases_eq n v.node) [
      | inl same ↦
          let off : is_seen (set seen v.node false) n ≡ false = ap (λ (k : ℕ). is_seen (set seen v.node false) k) same ∙ get_or-set_same seen v.node false false h in
          let bad : false ≡ true = sym off ∙ e in
          let fails : ⊥ = cc in
          absurd fails
      | inr other ↦
          let l = left n (sym (get_or-set_other seen v.node n false false other) ∙ e) in (
            l.0,
            λ j u b g. elim (cases_lt j i) [
              | inl below ↦ l.1 j u below g
              | inr not_below ↦
                  let place : i ≡ j = omega arith in
                  let one : v ≡ u = one_answer (slice_get visits j) v u (subst (λ (k : ℕ). slice_get visits k ≡ Some v) place here) g in
                  λ s. other (sym (ap (λ (z : Visit). z.node) one ∙ s))
            ],
          )
    ]
