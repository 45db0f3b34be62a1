-- A closed path in a problem's local graph is a cycle on one cell.
use Rattle.std.proofs.Common.{◌≡◌, ℕ, ◌<◌, ◌⊎◌, inl, inr, ⊎_elim, Bool, true, eqb, List, refl, ap, sym, ◌∙◌, subst}
use Rattle.std.proofs.lemmas.Bool.{cases_Bool, cond-true, cond-false}
use Rattle.axiom_model.specs.declared.MemoryModel.{MemoryModel}
use Rattle.axiom_model.specs.declared.Event.{Event}
use Rattle.axiom_model.specs.Execution.{Execution}
use Rattle.axiom_model.specs.Models.{LocalEdge, Consistent}
use Rattle.cnf_problem.specs.declared.problem.Graph.{Graph}
use Rattle.cnf_problem.specs.declared.problem.Graph.TheVariants.{Local, Global}
use Rattle.cnf_problem.specs.declared.problem.Edge.{Edge}
use Rattle.cnf_problem.specs.declared.problem.Node.{Node}
use Rattle.cnf_problem.specs.Literals.{value}
use Rattle.cnf_problem.specs.Edges.{Path, last, EdgeIn, node_at, global_edge}
use Rattle.memory_models.specs.declared.StaticEvent.{StaticEvent}
use Rattle.memory_models.specs.Events.{OneThread}
use Rattle.memory_models.specs.Keeping.{edge, IsThere, always, fenced, GoesOn}
use Rattle.memory_models.proofs.Ways.{along}
use Rattle.memory_models.proofs.Blocks.{thread_joined}
use Rattle.event_graph.specs.Laws.{happens}
use Rattle.order_vars.specs.Atoms.{nodes_of}
use Rattle.encode_match.specs.declared.Encoded.{Encoded}
use Rattle.encode_match.specs.Spelling.{IsEvent}
use Rattle.encode_match.specs.Matching.{GraphHolds, Matches, AtEvents}
use Rattle.encode_match.proofs.Ties.{Tie, Step, static, created, tied, step_of, local_not_global, happens_is}
use Rattle.encode_match.proofs.Moves.{local_po_at, local_move}
use Rattle.encode_match.proofs.Turns.{Reach, reach_then, carry_reach, Loop, loop_of, cycle_of}

-- ---- graphs of edges

pub global_graph : (nodes : List Node) (a b : ℕ) → (global_edge nodes a b).graph ≡ Global
global_graph nodes a b =
    let t = eqb (node_at nodes a).block (node_at nodes b).block in
    let u = edge Global a b in
    let v = edge Global (node_at nodes a).last (node_at nodes b).first in
    ⊎_elim (λ h. ap (λ (z : Edge). z.graph) (cond-true t u v h)) (λ h. ap (λ (z : Edge). z.graph) (cond-false t u v h)) (cases_Bool t)

pub there_goes_on : (m : MemoryModel) (x : Encoded) (s : List Bool) (g : GraphHolds m x s) (e : Edge) → IsThere g.fixed g.fences (happens s x.map.graph.events) e → GoesOn x.map.graph.events e
there_goes_on m x s g e (always c) = g.kept.fixed_on e c
there_goes_on m x s g e (fenced f c same h) = subst (λ (z : Edge). GoesOn x.map.graph.events z) same (g.kept.fences_on f c).0

pub event_happens : (x : Encoded) (s : List Bool) (n : ℕ) (a : Event) → IsEvent x s n a → happens s x.map.graph.events n ≡ true
event_happens x s n a p = happens_is s x.map.graph.events n p.static p.there ∙ p.happens

-- a static stretch stays in its thread
pub stretch_on : (m : MemoryModel) (x : Encoded) (s : List Bool) (g : GraphHolds m x s) (d : Graph) {a b : ℕ}
    → Path (λ u v. IsThere g.fixed g.fences (happens s x.map.graph.events) (edge d u v)) a b → OneThread x.map.graph.events a b
stretch_on m x s g d p =
    along (λ u v. IsThere g.fixed g.fences (happens s x.map.graph.events) (edge d u v)) (λ u v. OneThread x.map.graph.events u v)
    (λ u v h. (there_goes_on m x s g (edge d u v) h).1) (λ u v w h k. thread_joined x.map.graph.events u v w h k) p

module _ (m : MemoryModel) (x : Encoded) (s : List Bool) (e : Execution) (g : GraphHolds m x s) (t : Matches x s g.links e) where
  abbrev es : List StaticEvent
  es = x.map.graph.events

  abbrev Static : ℕ → ℕ → Type 0
  Static u v = IsThere g.fixed g.fences (happens s es) (edge Local u v)

  abbrev Moving : ℕ → ℕ → Type 0
  Moving u v = AtEvents x s (LocalEdge e) u v

  abbrev Edges : ℕ → ℕ → Type 0
  Edges u v = EdgeIn x.problem (λ l. value s l ≡ true) Local u v

  from_step : (a b : ℕ) → Step m x s g.fixed g.fences g.links (edge Local a b) → Static a b ⊎ Tie m x s g.links Local a b
  from_step a b (static h) = inl h
  from_step a b (created c d k same) = absurd (local_not_global (ap (λ (z : Edge). z.graph) same ∙ global_graph (nodes_of es) c d))
  from_step a b (tied Local c d k same) =
      inr (subst (λ (n : ℕ). Tie m x s g.links Local a n) (sym (ap (λ (z : Edge). z.to) same)) (subst (λ (n : ℕ). Tie m x s g.links Local n d) (sym (ap (λ (z : Edge). z.from) same)) k))
  from_step a b (tied Global c d k same) = absurd (local_not_global (ap (λ (z : Edge). z.graph) same ∙ global_graph (nodes_of es) c d))

  local_step : (a b : ℕ) → Edges a b → Static a b ⊎ Tie m x s g.links Local a b
  local_step a b h = from_step a b (step_of m x s g (edge Local a b) h)

  -- a walk from b has come to z: by edges of the execution to a node y, and by static ones from there
  record Place (b z : ℕ) : Type 0 where
    pub node : ℕ
    pub reached : Reach Moving b node
    pub now : happens s es node ≡ true
    pub way : Reach Static node z

  settled : (b z : ℕ) → Place b z → happens s es z ≡ true → Reach Moving b z
  settled b z p h =
      ⊎_elim
      (λ same. subst (λ (n : ℕ). Reach Moving b n) same p.reached)
      (λ w. inr (reach_then Moving b p.node z p.reached
      (last (local_po_at m x s e g t p.node z (((g.kept.exact (happens s es) g.possible).local p.node z (stretch_on m x s g Local w) p.now h).0 w) p.now h))))
      p.way

  move_on : (b z w : ℕ) → Place b z → Tie m x s g.links Local z w → Path Moving b w
  move_on b z w p k =
      let r = local_move m x s e g t z w k in
      reach_then Moving b z w (settled b z p (event_happens x s z r.0 r.2)) (last r)

  step_on : (b z w : ℕ) → Place b z → Edges z w → Place b w
  step_on b z w p h =
      ⊎_elim
      (λ d. record { node = p.node; reached = p.reached; now = p.now; way = inr (reach_then Static p.node z w p.way (last d)) })
      (λ k. let r = local_move m x s e g t z w k in record { node = w; reached = inr (move_on b z w p k); now = event_happens x s w r.1 r.3; way = inl refl })
      (local_step z w h)

  looped : Consistent m e → Loop Edges (Tie m x s g.links Local) → ⊥
  looped c l =
      let r = local_move m x s e g t l.from l.to l.turn in
      let start : Place l.to l.to = record { node = l.to; reached = inl refl; now = event_happens x s l.to r.1 r.3; way = inl refl } in
      let end = carry_reach Edges (Place l.to) (step_on l.to) l.to l.from start l.back in
      let cycle = cycle_of x s (LocalEdge e) l.to r.1 r.3 (move_on l.to l.from l.to end l.turn) in
      c.local cycle.0 cycle.1

  rises : (a b : ℕ) → Edges a b → (a < b) ⊎ Tie m x s g.links Local a b
  rises a b h = ⊎_elim (λ d. inl (there_goes_on m x s g (edge Local a b) d).0) (λ k. inr k) (local_step a b h)

  pub no_local_cycle : Consistent m e → (n : ℕ) → Path (EdgeIn x.problem (λ l. value s l ≡ true) Local) n n → ⊥
  no_local_cycle c n p = looped c (loop_of Edges (Tie m x s g.links Local) rises n p)
