-- A list of edges has a cycle exactly where the relation for which it stands has one.
use Rattle.std.proofs.Common.{◌≡◌, ℕ, zero, suc, ◌≤◌, List, [], ◌∷◌, map, get_or, Some, refl, sym, ap, ◌∙◌, subst, ⊎_elim, inl, inr, arith}
use Rattle.std.specs.Prelude.{slice_get, slice_index}
use Rattle.std.proofs.lemmas.Bool.{cases_order}
use Rattle.std.proofs.lemmas.Option.{none-some, same_Some, slice_get_within, get_or_from_slice_get}
use Rattle.dg_base.proofs.Lists.{get_from_map}
use Rattle.axiom_model.specs.declared.Event.{Event}
use Rattle.axiom_model.specs.Cycles.{Chain, Cycle, NoCycle}
use Rattle.axiom_model.specs.Execution.{Execution, action_at}
use Rattle.axiom_model.specs.Sorting.{HasEdge, IsSimpleCycle}
use Rattle.axiom_model.proofs.Orders.{cycle_map}
use Rattle.consistency.specs.declared.numbering.Node.{Node}
use Rattle.consistency.specs.Evidence.{AtMost, IsEventCycle}
use Rattle.consistency.specs.Numbering.{node_event, place_of, event_at, Earlier, IsNumbering}
use Rattle.consistency.specs.Graphs.{Reaches, Joined, Lists}
use Rattle.consistency.proofs.Reaching.{reach_join}
use Rattle.consistency.proofs.Finding.{event_at-node, node_at, one_number}

-- ---- where the list has no cycle

-- the second of two joined events has a number, and a chain leads to it from the first's
pub joined_from : (nodes : List Node) (edges : List (ℕ × ℕ)) (a b : Event) (n : ℕ) → Joined nodes edges a b → place_of nodes a ≡ Some n → (m : ℕ) × (place_of nodes b ≡ Some m) × Reaches edges n m
joined_from nodes edges a b n j p =
    (j.0, j.1, ⊎_elim (λ e. absurd (none-some n (sym e ∙ p))) (λ r. subst (λ k. Reaches edges k j.0) (same_Some r.0 n (sym r.1 ∙ p)) r.2) j.2)

chain_reaches : (nodes : List Node) (R : Event → Event → Type 0) (edges : List (ℕ × ℕ)) → ((e f : Event) → R e f → Joined nodes edges e f) → (a : Event) (l : List Event) (b : Event) (n : ℕ) → Chain R a l b → place_of nodes a ≡ Some n → (m : ℕ) × (place_of nodes b ≡ Some m) × Reaches edges n m
chain_reaches nodes R edges f a [] b n c p = joined_from nodes edges a b n (f a b c) p
chain_reaches nodes R edges f a (x ∷ xs) b n c p =
    let here = joined_from nodes edges a x n (f a x c.0) p in
    let rest = chain_reaches nodes R edges f x xs b here.0 c.1 here.1 in
    (rest.0, rest.1, reach_join edges n here.0 rest.0 here.2 rest.2)

chain_target : (nodes : List Node) (R : Event → Event → Type 0) (edges : List (ℕ × ℕ)) → ((e f : Event) → R e f → Joined nodes edges e f) → (a : Event) (l : List Event) (b : Event) → Chain R a l b → (m : ℕ) × (place_of nodes b ≡ Some m)
chain_target nodes R edges f a [] b c = let j = f a b c in (j.0, j.1)
chain_target nodes R edges f a (x ∷ xs) b c = chain_target nodes R edges f x xs b c.1

pub closed : (edges : List (ℕ × ℕ)) → NoCycle (HasEdge edges) → (n : ℕ) → Reaches edges n n → ⊥
closed edges none n r = none (n ∷ r.0) r.1

-- where every pair of the relation is a chain of edges, and these have no cycle, it has none
pub no_cycle_from : (nodes : List Node) (R : Event → Event → Type 0) (edges : List (ℕ × ℕ)) → ((e f : Event) → R e f → Joined nodes edges e f) → NoCycle (HasEdge edges) → NoCycle R
no_cycle_from nodes R edges f none [] c = c
no_cycle_from nodes R edges f none (a ∷ l) c =
    let n = chain_target nodes R edges f a l a c in
    let r = chain_reaches nodes R edges f a l a n.0 c n.1 in
    closed edges none n.0 (subst (λ k. Reaches edges n.0 k) (same_Some r.0 n.0 (sym r.1 ∙ n.1)) r.2)

-- ---- where it has one

-- each member of a chain but its end has an edge
chain_source : {E : Type 0} (R : E → E → Type 0) (a : E) (l : List E) (b : E) → Chain R a l b → (i : ℕ) (n : E) → slice_get (a ∷ l) i ≡ Some n → (m : E) × R n m
chain_source R a [] b c zero n e = (b, subst (λ z. R z b) (same_Some a n e) c)
chain_source R a [] b c (suc i) n e = absurd (none-some n e)
chain_source R a (x ∷ xs) b c zero n e = (x, subst (λ z. R z x) (same_Some a n e) c.0)
chain_source R a (x ∷ xs) b c (suc i) n e = chain_source R x xs b c.1 i n e

pub cycle_source : {E : Type 0} (R : E → E → Type 0) (l : List E) → Cycle R l → (i : ℕ) (n : E) → slice_get l i ≡ Some n → (m : E) × R n m
cycle_source R [] c i n e = absurd c
cycle_source R (a ∷ l) c i n e = chain_source R a l a c i n e

-- the first of a simple cycle is the least
pub first_least : (edges : List (ℕ × ℕ)) (l : List ℕ) → IsSimpleCycle edges l → (i a n : ℕ) → slice_get l 0 ≡ Some a → slice_get l i ≡ Some n → a ≤ n
first_least edges l s i a n e f =
    let h : slice_index l 0 ≤ get_or l i n = s.least_first i n (slice_get_within l i n f) in
    let first : get_or l 0 0 ≡ a = get_or_from_slice_get l 0 a 0 e in
    let other : get_or l i n ≡ n = get_or_from_slice_get l i n n f in
    omega (arith, h, first, other)

-- the events of nodes, in order
pub at_most_same : (v : Node) → AtMost (node_event v) (node_event v)
at_most_same v = inr (refl, omega arith)

pub at_most_earlier : (v w : Node) → Earlier v w → AtMost (node_event v) (node_event w)
at_most_earlier v w e = ⊎_elim (λ l. inl l) (λ p. let l = p.1 in inr (p.0, omega arith)) e

module _ (x : Execution) (nodes : List Node) (num : IsNumbering x nodes) where
  pub at_most_numbered : (n m : ℕ) (v w : Node) → n ≤ m → slice_get nodes n ≡ Some v → slice_get nodes m ≡ Some w → AtMost (node_event v) (node_event w)
  at_most_numbered n m v w l e f =
      ⊎_elim
      (λ same. subst (λ z. AtMost (node_event v) (node_event z)) (same_Some v w (sym e ∙ ap (slice_get nodes) same ∙ f)) (at_most_same v))
      (⊎_elim (λ less. at_most_earlier v w (num.rising n m v w less e f)) (λ more. absurd (omega arith)))
      (cases_order n m)

  -- the node of a member of a cycle's events
  member : (R : Event → Event → Type 0) (edges : List (ℕ × ℕ)) → Lists nodes R edges → (l : List ℕ) → Cycle (HasEdge edges) l → (i : ℕ) (e : Event) → slice_get (map (event_at nodes) l) i ≡ Some e → (n : ℕ) × (v : Node) × (slice_get l i ≡ Some n) × (slice_get nodes n ≡ Some v) × (node_event v ≡ e)
  member R edges lists l c i e h =
      let m = get_from_map (event_at nodes) l i e h in
      let t = cycle_source (HasEdge edges) l c i m.0 m.1 in
      let v = node_at nodes m.0 (lists.below m.0 t.0 t.1).0 in
      (m.0, v.0, m.1, v.1, sym (event_at-node nodes m.0 v.0 v.1) ∙ m.2)

  pub event_cycle_from : (R : Event → Event → Type 0) (edges : List (ℕ × ℕ)) → Lists nodes R edges → (l : List ℕ) → IsSimpleCycle edges l → IsEventCycle x R (map (event_at nodes) l)
  event_cycle_from R edges lists l s = record {
    cycle = cycle_map (HasEdge edges) R (event_at nodes) lists.sound l s.cycle;
    once = λ i j e f g.
        let a = member R edges lists l s.cycle i e f in
        let b = member R edges lists l s.cycle j e g in
        let same : a.0 ≡ b.0 = one_number x nodes num a.0 b.0 a.1 b.1 a.3 b.3 (a.4 ∙ sym b.4) in
        s.once i j b.0 (subst (λ n. slice_get l i ≡ Some n) same a.2) b.2;
    least_first = λ i e f g h.
        let a = member R edges lists l s.cycle 0 e g in
        let b = member R edges lists l s.cycle i f h in
        subst (λ z. AtMost z f) a.4 (subst (λ z. AtMost (node_event a.1) z) b.4
        (at_most_numbered a.0 b.0 a.1 b.1 (first_least edges l s i a.0 b.0 a.2 b.2) a.3 b.3));
    actions = λ i e f.
        let a = member R edges lists l s.cycle i e f in
        (a.1.action, ap (action_at x) (sym a.4) ∙ num.sound a.0 a.1 a.3);
  }
