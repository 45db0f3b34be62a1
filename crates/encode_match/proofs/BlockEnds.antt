-- Where the block of a static event begins and ends, and the edges between blocks.
use Rattle.std.proofs.Common.{◌≡◌, ℕ, zero, suc, ◌+◌, ◌<◌, ◌≤◌, ◌⊎◌, inl, inr, true, false, cond, eqb, List, [], ◌∷◌, refl, ap, sym, ◌∙◌, arith}
use Rattle.std.specs.Prelude.{Some, slice_get, slice_index_or}
use Rattle.std.proofs.lemmas.Bool.{cases_lt, cases_eq, cond-true, cond-false, eq-eqb, ne_eqb}
use Rattle.std.proofs.lemmas.Option.{same_Some, slice_get_within}
use Rattle.dg_base.proofs.Lists.{get_nothing, get_there, one_answer}
use Rattle.cnf_problem.specs.declared.problem.Graph.TheVariants.{Global}
use Rattle.cnf_problem.specs.declared.problem.Node.{Node}
use Rattle.cnf_problem.specs.Edges.{node_at, global_edge}
use Rattle.memory_models.specs.declared.StaticEvent.{StaticEvent}
use Rattle.memory_models.specs.Events.{IsAt, OneBlock, IsSection, AreStatic}
use Rattle.memory_models.specs.Keeping.{edge}
use Rattle.order_vars.specs.Atoms.{last_in, node_of, nodes_in, nodes_of}

-- ---- the last of a block

-- r stands for the last event of the block, among events that begin at place n
record IsLast (b n : ℕ) (es : List StaticEvent) (r : ℕ) : Type 0 where
  pub place : ℕ
  pub event : StaticEvent
  pub there : slice_get es place ≡ Some event
  pub in_block : event.block ≡ b
  pub at : r ≡ n + place
  pub none : (j : ℕ) (f : StaticEvent) → place < j → slice_get es j ≡ Some f → ¬ (f.block ≡ b)

none_more : (b : ℕ) (e : StaticEvent) (es : List StaticEvent) → ¬ (e.block ≡ b) → ((j : ℕ) (f : StaticEvent) → slice_get es j ≡ Some f → ¬ (f.block ≡ b)) → (j : ℕ) (f : StaticEvent) → slice_get (e ∷ es) j ≡ Some f → ¬ (f.block ≡ b)
none_more b e es n h zero f k = λ q. n (ap (λ (t : StaticEvent). t.block) (same_Some e f k) ∙ q)
none_more b e es n h (suc j) f k = h j f k

none_behind : (b : ℕ) (e : StaticEvent) (es : List StaticEvent) (p : ℕ) → ((j : ℕ) (f : StaticEvent) → p < j → slice_get es j ≡ Some f → ¬ (f.block ≡ b))
    → (j : ℕ) (f : StaticEvent) → suc p < j → slice_get (e ∷ es) j ≡ Some f → ¬ (f.block ≡ b)
none_behind b e es p h zero f l k = absurd (omega (arith, l))
none_behind b e es p h (suc j) f l k = h j f (omega (arith, l)) k

none_behind_first : (b : ℕ) (e : StaticEvent) (es : List StaticEvent) → ((j : ℕ) (f : StaticEvent) → slice_get es j ≡ Some f → ¬ (f.block ≡ b))
    → (j : ℕ) (f : StaticEvent) → zero < j → slice_get (e ∷ es) j ≡ Some f → ¬ (f.block ≡ b)
none_behind_first b e es h zero f l k = absurd (omega (arith, l))
none_behind_first b e es h (suc j) f l k = h j f k

last_found : (b found n : ℕ) (es : List StaticEvent) → (((j : ℕ) (f : StaticEvent) → slice_get es j ≡ Some f → ¬ (f.block ≡ b)) × (last_in b found n es ≡ found)) ⊎ IsLast b n es (last_in b found n es)
last_found b found n [] = inl ((λ j f k. absurd (get_nothing j f k)), refl)
last_found b found n (e ∷ es) =
    elim (last_found b (cond (eqb e.block b) n found) (n + 1) es) [
      | inl h ↦ elim (cases_eq e.block b) [
        | inl same ↦ inr (record {
          place = zero;
          event = e;
          there = refl;
          in_block = same;
          at = let at_n : cond (eqb e.block b) n found ≡ n = cond-true (eqb e.block b) n found (eq-eqb e.block b same) in omega (arith, h.1, at_n);
          none = none_behind_first b e es h.0;
        })
        | inr other ↦ inl (none_more b e es other h.0, h.1 ∙ cond-false (eqb e.block b) n found (ne_eqb e.block b other))
      ]
      | inr r ↦ inr (record {
        place = suc r.place;
        event = r.event;
        there = r.there;
        in_block = r.in_block;
        at = omega (arith, r.at);
        none = none_behind b e es r.place r.none;
      })
    ]

-- ---- blocks

node_is : (all es : List StaticEvent) (n : ℕ) (t : StaticEvent) (d : Node) → slice_get es n ≡ Some t → slice_index_or (nodes_in all es) n d ≡ node_of all t
node_is all [] n t d h = absurd (get_nothing n t h)
node_is all (e ∷ es) zero t d h = ap (node_of all) (same_Some e t h)
node_is all (e ∷ es) (suc n) t d h = node_is all es n t d h

-- the block of the event at m
pub record BlockOf (es : List StaticEvent) (m : ℕ) (t : StaticEvent) : Type 0 where
  pub there : IsAt es m t
  pub opening : StaticEvent
  pub first_there : IsAt es t.block opening
  pub first_block : opening.block ≡ t.block
  pub last : ℕ
  pub closing : StaticEvent
  pub last_there : IsAt es last closing
  pub last_block : closing.block ≡ t.block
  pub from_first : t.block ≤ m
  pub to_last : m ≤ last
  pub none : (j : ℕ) (f : StaticEvent) → last < j → IsAt es j f → ¬ (f.block ≡ t.block)
  pub last_is : last_in t.block t.block 0 es ≡ last
  pub node : node_at (nodes_of es) m ≡ record { block = t.block; first = t.block; last = last }

block_with : (es : List StaticEvent) (m : ℕ) (t : StaticEvent) → AreStatic es → IsAt es m t → IsLast t.block 0 es (last_in t.block t.block 0 es) → BlockOf es m t
block_with es m t s h l =
    let low : t.block ≤ m = s.own_or_before m t h in
    let r = get_there es t.block (omega (arith, low, slice_get_within es m t h)) in
    let same : last_in t.block t.block 0 es ≡ l.place = omega (arith, l.at) in
    record {
      there = h;
      opening = r.0;
      first_there = r.1;
      first_block = s.heads m t r.0 h r.1;
      last = l.place;
      closing = l.event;
      last_there = l.there;
      last_block = l.in_block;
      from_first = low;
      to_last = elim (cases_lt l.place m) [ inl k ↦ absurd (l.none m t k h refl) | inr k ↦ k ];
      none = l.none;
      last_is = same;
      node = node_is es es m t (record { block = m; first = m; last = m }) h ∙ ap (λ (k : ℕ). record { block = t.block; first = t.block; last = k }) same;
    }

pub block_of : (es : List StaticEvent) (m : ℕ) (t : StaticEvent) → AreStatic es → IsAt es m t → BlockOf es m t
block_of es m t s h =
    elim (last_found t.block t.block 0 es) [
      | inl p ↦ absurd (p.0 m t h refl)
      | inr l ↦ block_with es m t s h l
    ]

-- ---- what static events say of blocks

-- both places are of the block
pub same_block : (es : List StaticEvent) (a b : ℕ) (t u : StaticEvent) → IsAt es a t → IsAt es b u → OneBlock es a b → t.block ≡ u.block
same_block es a b t u h k o =
    ap (λ (e : StaticEvent). e.block) (one_answer (slice_get es a) t o.first h o.is_first) ∙ (o.same ∙ ap (λ (e : StaticEvent). e.block) (one_answer (slice_get es b) o.second u o.is_second k))

-- a section, where the block has more than one event
pub section_of : (es : List StaticEvent) (m : ℕ) (t : StaticEvent) (b : BlockOf es m t) → t.block < b.last → IsSection es t.block b.last
section_of es m t b l = record {
  later = l;
  one = record { first = b.opening; second = b.closing; is_first = b.first_there; is_second = b.last_there; same = b.first_block ∙ sym b.last_block };
  opens = λ e h. ap (λ (f : StaticEvent). f.block) (one_answer (slice_get es t.block) e b.opening h b.first_there) ∙ b.first_block;
  closes = λ o. b.none (b.last + 1) o.second (omega arith) o.is_second
      (sym o.same ∙ (ap (λ (f : StaticEvent). f.block) (one_answer (slice_get es t.block) o.first b.opening o.is_first b.first_there) ∙ b.first_block));
}

-- ---- edges between blocks

-- an edge inside a block
pub edge_inside : (es : List StaticEvent) (a b : ℕ) (t u : StaticEvent) → BlockOf es a t → BlockOf es b u → t.block ≡ u.block → global_edge (nodes_of es) a b ≡ edge Global a b
edge_inside es a b t u x y e =
    let same : eqb (node_at (nodes_of es) a).block (node_at (nodes_of es) b).block ≡ true =
    eq-eqb (node_at (nodes_of es) a).block (node_at (nodes_of es) b).block (ap (λ (n : Node). n.block) x.node ∙ (e ∙ sym (ap (λ (n : Node). n.block) y.node))) in
    cond-true (eqb (node_at (nodes_of es) a).block (node_at (nodes_of es) b).block) (edge Global a b) (edge Global (node_at (nodes_of es) a).last (node_at (nodes_of es) b).first) same

-- an edge between blocks: from the last of one to the first of the other
pub edge_between : (es : List StaticEvent) (a b : ℕ) (t u : StaticEvent) (x : BlockOf es a t) → BlockOf es b u → ¬ (t.block ≡ u.block) → global_edge (nodes_of es) a b ≡ edge Global x.last u.block
edge_between es a b t u x y n =
    let apart : eqb (node_at (nodes_of es) a).block (node_at (nodes_of es) b).block ≡ false =
    ne_eqb (node_at (nodes_of es) a).block (node_at (nodes_of es) b).block (λ e. n (sym (ap (λ (k : Node). k.block) x.node) ∙ (e ∙ ap (λ (k : Node). k.block) y.node))) in
    cond-false (eqb (node_at (nodes_of es) a).block (node_at (nodes_of es) b).block) (edge Global a b) (edge Global (node_at (nodes_of es) a).last (node_at (nodes_of es) b).first) apart
    ∙ (ap (λ (k : Node). edge Global k.last (node_at (nodes_of es) b).first) x.node ∙ ap (λ (k : Node). edge Global x.last k.first) y.node)
