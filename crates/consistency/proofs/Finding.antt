-- Which events have numbers, and which.
use Rattle.std.proofs.Common.{◌≡◌, ℕ, zero, suc, ◌+◌, ◌<◌, List, [], ◌∷◌, true, length, Some, None, refl, sym, ap, ◌∙◌, subst, ⊎_elim, arith}
use Rattle.std.specs.Prelude.{slice_get, nat_eq}
use Rattle.std.proofs.lemmas.Bool.{and_parts, and_from, eqb-true, eq-eqb, cases_Bool, cases_order, cond-true, cond-false}
use Rattle.std.proofs.lemmas.Option.{none-some, same_Some}
use Rattle.axiom_model.specs.declared.Action.{Action}
use Rattle.axiom_model.specs.declared.Event.{Event}
use Rattle.axiom_model.specs.declared.Event.TheVariants.{Initial, At}
use Rattle.axiom_model.specs.Execution.{Execution, action_at, cell_of}
use Rattle.consistency.specs.declared.numbering.Node.{Node}
use Rattle.consistency.specs.Numbering.{node_event, is_event, place_from, place_of, event_of, event_at, Earlier, IsNumbering}
use Rattle.consistency.specs.Edges.{cell_in}

pub is_event-node_event : (v : Node) (e : Event) → is_event v e ≡ true → node_event v ≡ e
is_event-node_event v Initial t = cc
is_event-node_event v (At h i) t =
    let p = and_parts (nat_eq v.handle h) (nat_eq v.index i) t in
    let a : v.handle ≡ h = eqb-true v.handle h p.0 in
    let b : v.index ≡ i = eqb-true v.index i p.1 in
    cc

pub node_event-is_event : (v : Node) → is_event v (node_event v) ≡ true
node_event-is_event v = and_from (nat_eq v.handle v.handle) (nat_eq v.index v.index) (eq-eqb v.handle v.handle refl) (eq-eqb v.index v.index refl)

-- the event is that of the node at place k, of which the look-ups tell
pub record Found (n : ℕ) (vs : List Node) (e : Event) (m : ℕ) : Type 0 where
  pub place : ℕ
  pub node : Node
  pub is : m ≡ n + place
  pub there : slice_get vs place ≡ Some node
  pub event : node_event node ≡ e
  pub cell : cell_in vs e ≡ cell_of node.action

pub found : (n : ℕ) (vs : List Node) (e : Event) (m : ℕ) → place_from n vs e ≡ Some m → Found n vs e m
found n [] e m p = absurd (none-some m p)
found n (v ∷ vs) e m p =
    ⊎_elim
    (λ t.
    let q : Some n ≡ Some m = sym (cond-true (is_event v e) (Some n) (place_from (n + 1) vs e) t) ∙ p in
    let i : n ≡ m = same_Some n m q in
    record { place = 0; node = v; is = omega arith; there = refl; event = is_event-node_event v e t; cell = cond-true (is_event v e) (cell_of v.action) (cell_in vs e) t })
    (λ t.
    let r = found (n + 1) vs e m (sym (cond-false (is_event v e) (Some n) (place_from (n + 1) vs e) t) ∙ p) in
    let i = r.is in
    record { place = suc r.place; node = r.node; is = omega arith; there = r.there; event = r.event; cell = cond-false (is_event v e) (cell_of v.action) (cell_in vs e) t ∙ r.cell })
    (cases_Bool (is_event v e))

pub place_exists : (n : ℕ) (vs : List Node) (k : ℕ) (v : Node) → slice_get vs k ≡ Some v → (m : ℕ) × (place_from n vs (node_event v) ≡ Some m)
place_exists n [] k v e = absurd (none-some v e)
place_exists n (u ∷ vs) zero v e =
    (n, cond-true (is_event u (node_event v)) (Some n) (place_from (n + 1) vs (node_event v)) (subst (λ z. is_event u (node_event z) ≡ true) (same_Some u v e) (node_event-is_event u)))
place_exists n (u ∷ vs) (suc k) v e =
    ⊎_elim
    (λ t. (n, cond-true (is_event u (node_event v)) (Some n) (place_from (n + 1) vs (node_event v)) t))
    (λ t. let r = place_exists (n + 1) vs k v e in (r.0, cond-false (is_event u (node_event v)) (Some n) (place_from (n + 1) vs (node_event v)) t ∙ r.1))
    (cases_Bool (is_event u (node_event v)))

-- Initial has no number
initial_from : (n : ℕ) (vs : List Node) → place_from n vs Initial ≡ None
initial_from n [] = refl
initial_from n (v ∷ vs) = initial_from (n + 1) vs

pub initial_unplaced : (nodes : List Node) → place_of nodes Initial ≡ None
initial_unplaced nodes = initial_from 0 nodes

pub event_at-node : (nodes : List Node) (k : ℕ) (v : Node) → slice_get nodes k ≡ Some v → event_at nodes k ≡ node_event v
event_at-node nodes k v e = ap event_of e

-- the node with a number
pub node_at : (nodes : List Node) (k : ℕ) → k < length nodes → (v : Node) × (slice_get nodes k ≡ Some v)
node_at (v ∷ vs) zero l = (v, refl)
node_at (v ∷ vs) (suc k) l = node_at vs k (omega arith)
node_at [] k l = absurd (omega arith)

-- the event is the action p, and has a number
pub record Stands (x : Execution) (nodes : List Node) (e : Event) (p : Action) : Type 0 where
  pub place : ℕ
  pub node : Node
  pub there : slice_get nodes place ≡ Some node
  pub event : node_event node ≡ e
  pub action : node.action ≡ p
  pub placed : place_of nodes e ≡ Some place

module _ (x : Execution) (nodes : List Node) (s : IsNumbering x nodes) where
  same_event_earlier : (v w : Node) → node_event v ≡ node_event w → Earlier v w → ⊥
  same_event_earlier v w e l =
      let h : v.handle ≡ w.handle = cc in
      let i : v.index ≡ w.index = cc in
      ⊎_elim (λ a. omega arith) (λ a. let b = a.1 in omega arith) l

  -- one event has one number
  pub one_number : (n m : ℕ) (v w : Node) → slice_get nodes n ≡ Some v → slice_get nodes m ≡ Some w → node_event v ≡ node_event w → n ≡ m
  one_number n m v w e f g =
      ⊎_elim (λ i. i)
      (⊎_elim (λ l. absurd (same_event_earlier v w g (s.rising n m v w l e f))) (λ l. absurd (same_event_earlier w v (sym g) (s.rising m n w v l f e))))
      (cases_order n m)

  -- the number of a node's event is its place
  pub place_is : (k : ℕ) (v : Node) → slice_get nodes k ≡ Some v → place_of nodes (node_event v) ≡ Some k
  place_is k v e =
      let m = place_exists 0 nodes k v e in
      let f = found 0 nodes (node_event v) m.0 m.1 in
      let i = f.is in
      let same : f.place ≡ k = one_number f.place k f.node v f.there e f.event in
      let g : m.0 ≡ k = omega arith in
      m.1 ∙ ap Some g

  -- the event with a number is the one whose number it is
  pub placed_at : (e : Event) (k : ℕ) → place_of nodes e ≡ Some k → (v : Node) × (slice_get nodes k ≡ Some v) × (node_event v ≡ e)
  placed_at e k p =
      let f = found 0 nodes e k p in
      let i = f.is in
      let same : f.place ≡ k = omega arith in
      (f.node, subst (λ m. slice_get nodes m ≡ Some f.node) same f.there, f.event)

  pub event_at-placed : (e : Event) (k : ℕ) → place_of nodes e ≡ Some k → event_at nodes k ≡ e
  event_at-placed e k p = let v = placed_at e k p in event_at-node nodes k v.0 v.1 ∙ v.2

  -- every action has a number
  pub stands : (e : Event) (p : Action) → action_at x e ≡ Some p → Stands x nodes e p
  stands Initial p a = absurd (none-some p a)
  stands (At h i) p a =
      let c = s.complete h i p a in
      let g : c.1.handle ≡ h = c.3 in
      let j : c.1.index ≡ i = c.4 in
      let e : node_event c.1 ≡ At h i = cc in
      record {
        place = c.0;
        node = c.1;
        there = c.2;
        event = e;
        action = same_Some c.1.action p (sym (s.sound c.0 c.1 c.2) ∙ ap (action_at x) e ∙ a);
        placed = ap (place_of nodes) (sym e) ∙ place_is c.0 c.1 c.2;
      }
