-- An execution that an assignment matches has cycles where the problem's graphs have.
use Rattle.std.proofs.Common.{◌≡◌, ℕ, ◌<◌, inl, inr, ⊎_elim, Bool, true, List, [], ◌∷◌, refl, ap, sym, ◌∙◌, subst, arith}
use Rattle.std.specs.Prelude.{Contains}
use Rattle.std.proofs.lemmas.Bool.{cases_lt, cases_eq}
use Rattle.axiom_model.specs.declared.MemoryModel.{MemoryModel}
use Rattle.axiom_model.specs.declared.Event.{Event}
use Rattle.axiom_model.specs.declared.Event.TheVariants.{Initial, At}
use Rattle.axiom_model.specs.Cycles.{Chain, Cycle}
use Rattle.axiom_model.specs.Execution.{Execution, SameBlock}
use Rattle.axiom_model.specs.Models.{LocalEdge, GlobalEdge, Leaves, Consistent}
use Rattle.cnf_problem.specs.declared.problem.Graph.{Graph}
use Rattle.cnf_problem.specs.declared.problem.Graph.TheVariants.{Local, Global}
use Rattle.cnf_problem.specs.declared.problem.Edge.{Edge}
use Rattle.cnf_problem.specs.declared.problem.Node.{Node}
use Rattle.cnf_problem.specs.Literals.{value}
use Rattle.cnf_problem.specs.Edges.{Path, last, EdgeIn, HasEdge, HasCycle, IsCyclic, node_at, global_edge}
use Rattle.memory_models.specs.declared.StaticEvent.{StaticEvent}
use Rattle.memory_models.specs.declared.StaticKind.{StaticKind}
use Rattle.memory_models.specs.Events.{IsAt, OneThread}
use Rattle.memory_models.specs.Keeping.{edge, keeps_kinds, IsKept, IsThere, always, FixedWay, Way}
use Rattle.memory_models.proofs.Ways.{joined, mapped}
use Rattle.memory_models.proofs.Blocks.{one_event, thread_joined, thread_turned, block_turned, block_front, to_head}
use Rattle.event_graph.specs.Laws.{happens}
use Rattle.order_vars.specs.Atoms.{nodes_of}
use Rattle.encode_match.specs.declared.Encoded.{Encoded}
use Rattle.encode_match.specs.Spelling.{IsEvent}
use Rattle.encode_match.specs.Matching.{GraphHolds, Matches, SameCycles}
use Rattle.encode_match.specs.Directions.{CyclesAgree}
use Rattle.encode_match.proofs.Acts.{keeps_before_full, keeps_behind_full}
use Rattle.encode_match.proofs.BlockEnds.{BlockOf, block_of, section_of, same_block, edge_inside, edge_between}
use Rattle.encode_match.proofs.Ties.{static_edge}
use Rattle.encode_match.proofs.Moves.{InThread, same_block_at, one_block_at}
use Rattle.encode_match.proofs.Turns.{Reach, reach_then, then_reach}
use Rattle.encode_match.proofs.LocalWalk.{event_happens, no_local_cycle}
use Rattle.encode_match.proofs.GlobalWalk.{block_acts, before_block, no_global_cycle}
use Rattle.encode_match.proofs.Hops.{Linked, by_order, by_edge, one_node, local_hop, global_hop, global_target, local_target}

-- an event of one block with an event of a thread is of a thread
block_in_thread : (e : Execution) (a b : Event) → SameBlock e a b → InThread a → InThread b
block_in_thread e Initial Initial o i = i
block_in_thread e (At h i) Initial o j = absurd o
block_in_thread e Initial (At k j) o i = absurd o
block_in_thread e (At h i) (At k j) o l = record { handle = k; index = j; is = refl }

module _ (m : MemoryModel) (x : Encoded) (s : List Bool) (e : Execution) (g : GraphHolds m x s) (t : Matches x s g.links e) where
  abbrev es : List StaticEvent
  es = x.map.graph.events

  abbrev now : ℕ → Bool
  now = happens s es

  abbrev Edges : Graph → ℕ → ℕ → Type 0
  Edges d u v = EdgeIn x.problem (λ l. value s l ≡ true) d u v

  static_path : (d : Graph) (a b : ℕ) → Way g.fixed g.fences now d a b → Path (Edges d) a b
  static_path d a b w = mapped (λ u v. IsThere g.fixed g.fences now (edge d u v)) (Edges d) (λ u v h. static_edge m x s g (edge d u v) h) w

  fixed_path : (a b : ℕ) → FixedWay g.fixed Global a b → Path (Edges Global) a b
  fixed_path a b w = mapped (λ u v. Contains g.fixed (edge Global u v)) (Edges Global) (λ u v h. static_edge m x s g (edge Global u v) (always h)) w

  kept_path : (a b : ℕ) → IsKept m es a b → now a ≡ true → now b ≡ true → Path (Edges Global) a b
  kept_path a b k u v =
      static_path Global a b (((g.kept.exact now g.possible).global a b (record { first = k.first; second = k.second; is_first = k.is_first; is_second = k.is_second; same = k.same }) u v).1 (last (k, u, v)))

  -- inside a block: to its last event, and from its first
  to_last : (n : ℕ) (f : StaticEvent) (b : BlockOf es n f) → Reach (Edges Global) n b.last
  to_last n f b =
      ⊎_elim
      (λ l. inr (fixed_path n b.last (g.kept.closes f.block b.last n (section_of es n f b (omega (arith, l, b.from_first))) b.from_first l)))
      (λ l. inl (omega (arith, l, b.to_last)))
      (cases_lt n b.last)

  from_first : (n : ℕ) (f : StaticEvent) (b : BlockOf es n f) → Reach (Edges Global) f.block n
  from_first n f b =
      ⊎_elim
      (λ l. inr (fixed_path f.block n (g.kept.opens f.block b.last n (section_of es n f b (omega (arith, l, b.to_last))) l b.to_last)))
      (λ l. inl (omega (arith, l, b.from_first)))
      (cases_lt f.block n)

  through : (n : ℕ) (f : StaticEvent) (b : BlockOf es n f) → Reach (Edges Global) f.block b.last
  through n f b = ⊎_elim (λ q. subst (λ (z : ℕ). Reach (Edges Global) z b.last) (sym q) (to_last n f b)) (λ p. inr (then_reach (Edges Global) f.block n b.last p (to_last n f b))) (from_first n f b)

  edge_path : (a b : ℕ) (d : Edge) (k n : ℕ) → HasEdge x.problem (λ l. value s l ≡ true) d → d ≡ edge Global k n → Path (Edges Global) k n
  edge_path a b d k n h q = last (subst (λ (z : Edge). HasEdge x.problem (λ l. value s l ≡ true) z) q h)

  -- between nodes that are linked a path leads
  link_path : (k n : ℕ) (a b : Event) (p : IsEvent x s k a) (q : IsEvent x s n b) → Linked m x s e g t k n → Path (Edges Global) k n
  link_path k n a b p q (by_order o) = kept_path k n o (event_happens x s k a p) (event_happens x s n b q)
  link_path k n a b p q (by_edge h) =
      let bk = block_of es k p.static g.static p.there in
      let bn = block_of es n q.static g.static q.there in
      ⊎_elim
      (λ c. edge_path k n (global_edge (nodes_of es) k n) k n h (edge_inside es k n p.static q.static bk bn c))
      (λ c. reach_then (Edges Global) k bk.last n (to_last k p.static bk)
      (then_reach (Edges Global) bk.last q.static.block n (edge_path k n (global_edge (nodes_of es) k n) bk.last q.static.block h (edge_between es k n p.static q.static bk bn c)) (from_first n q.static bn)))
      (cases_eq p.static.block q.static.block)

  -- ---- between blocks

  abbrev end_of : ℕ → ℕ
  end_of n = (node_at (nodes_of es) n).last

  end_is : (n : ℕ) (f : StaticEvent) (b : BlockOf es n f) → end_of n ≡ b.last
  end_is n f b = ap (λ (z : Node). z.last) b.node

  -- the last of a block happens, where a later event of the thread does
  last_happens : (k n : ℕ) (f : StaticEvent) (b : BlockOf es k f) → OneThread es k n → b.last < n → now k ≡ true → now n ≡ true → now b.last ≡ true
  last_happens k n f b o l u v =
      ⊎_elim
      (λ c. let one : OneThread es f.block n = ⊎_elim (λ d. thread_joined es f.block k n (g.static.of_thread k f b.there d) o)
      (λ d. let same : k ≡ f.block = omega (arith, d, b.from_first) in subst (λ (z : ℕ). OneThread es z n) same o) (cases_lt f.block k) in
      g.possible.behind f.block b.last n (section_of es k f b c) one l v (g.possible.inside k f b.there u))
      (λ c. let same : k ≡ b.last = omega (arith, c, b.from_first, b.to_last) in subst (λ (z : ℕ). now z ≡ true) same u)
      (cases_lt f.block b.last)

  -- which kinds are kept between the ends of blocks
  ends_kept : (k n : ℕ) (f h : StaticEvent) (b : BlockOf es k f) (c : BlockOf es n h) → keeps_kinds m f.kind h.kind ≡ true → keeps_kinds m b.closing.kind c.opening.kind ≡ true
  ends_kept k n f h b c q =
      ⊎_elim
      (λ l. ap (λ (z : StaticKind). keeps_kinds m z c.opening.kind) (g.static.ends f.block b.last b.closing (section_of es k f b (omega (arith, l, b.from_first))) b.last_there) ∙ keeps_behind_full m c.opening.kind)
      (λ l. let same : b.last ≡ k = omega (arith, l, b.to_last) in
      let closing : b.closing ≡ f = one_event es k b.closing f (subst (λ (z : ℕ). IsAt es z b.closing) same b.last_there) b.there in
      ⊎_elim
      (λ d. ap (λ (z : StaticKind). keeps_kinds m b.closing.kind z) (g.static.begins h.block c.last c.opening (section_of es n h c (omega (arith, d, c.to_last))) c.first_there) ∙ keeps_before_full m b.closing.kind)
      (λ d. let first : h.block ≡ n = omega (arith, d, c.from_first) in
      let opening : c.opening ≡ h = one_event es n c.opening h (subst (λ (z : ℕ). IsAt es z c.opening) first c.first_there) c.there in
      ap (λ (z : StaticEvent). keeps_kinds m z.kind c.opening.kind) closing ∙ (ap (λ (z : StaticEvent). keeps_kinds m f.kind z.kind) opening ∙ q))
      (cases_lt h.block n))
      (cases_lt k b.last)

  -- a kept pair of two blocks, at their ends
  ends_pair : (k n : ℕ) (a b : Event) (p : IsEvent x s k a) (q : IsEvent x s n b) (o : IsKept m es k n) (c : BlockOf es k p.static) (d : BlockOf es n q.static) → ¬ (p.static.block ≡ q.static.block) → Path (Edges Global) c.last q.static.block
  ends_pair k n a b p q o c d apart =
      let first = one_event es k o.first p.static o.is_first.there p.there in
      let second = one_event es n o.second q.static o.is_second.there q.there in
      let kn : OneThread es k n = record { first = o.first; second = o.second; is_first = o.is_first; is_second = o.is_second; same = o.same } in
      let below : c.last < n = ⊎_elim (λ l. l)
      (λ l. absurd (apart (same_block es k n p.static q.static p.there q.there (block_front es k n c.last g.static (record { first = p.static; second = c.closing; is_first = p.there; is_second = c.last_there; same = sym c.last_block }) (omega (arith, o.before)) l)))) (cases_lt c.last n) in
      let before : c.last < q.static.block = before_block es c.last n c.closing q.static g.static c.last_there q.there below (λ z. apart (sym c.last_block ∙ z)) in
      let left : OneThread es k c.last = block_acts es k c.last o.first g.static (record { first = p.static; second = c.closing; is_first = p.there; is_second = c.last_there; same = sym c.last_block }) o.is_first in
      let right : OneThread es n q.static.block = block_acts es n q.static.block o.second g.static (block_turned es q.static.block n (to_head es n q.static g.static q.there)) o.is_second in
      let ends : OneThread es c.last q.static.block = thread_joined es c.last k q.static.block (thread_turned es k c.last left) (thread_joined es k n q.static.block kn right) in
      let closing : ends.first ≡ c.closing = one_event es c.last ends.first c.closing ends.is_first.there c.last_there in
      let opening : ends.second ≡ d.opening = one_event es q.static.block ends.second d.opening ends.is_second.there d.first_there in
      let kinds : keeps_kinds m p.static.kind q.static.kind ≡ true = ⊎_elim
      (λ z. ap (λ (y : StaticEvent). keeps_kinds m y.kind q.static.kind) (sym first) ∙ (ap (λ (y : StaticEvent). keeps_kinds m o.first.kind y.kind) (sym second) ∙ z))
      (λ z. absurd (apart (ap (λ (y : StaticEvent). y.block) (sym first) ∙ (z ∙ ap (λ (y : StaticEvent). y.block) second)))) o.kept in
      let kept : IsKept m es c.last q.static.block = record {
        first = ends.first;
        second = ends.second;
        is_first = ends.is_first;
        is_second = ends.is_second;
        same = ends.same;
        before = before;
        kept = inl (ap (λ (y : StaticEvent). keeps_kinds m y.kind ends.second.kind) closing ∙ (ap (λ (y : StaticEvent). keeps_kinds m c.closing.kind y.kind) opening ∙ ends_kept k n p.static q.static c d kinds));
      } in
      kept_path c.last q.static.block kept
      (last_happens k n p.static c kn below (event_happens x s k a p) (event_happens x s n b q))
      (g.possible.inside n q.static q.there (event_happens x s n b q))

  -- and between blocks from the last of one to the first of the other
  link_blocks : (k n : ℕ) (a b : Event) (p : IsEvent x s k a) (q : IsEvent x s n b) (c : BlockOf es k p.static) (d : BlockOf es n q.static) → ¬ (p.static.block ≡ q.static.block) → Linked m x s e g t k n → Path (Edges Global) c.last q.static.block
  link_blocks k n a b p q c d apart (by_order o) = ends_pair k n a b p q o c d apart
  link_blocks k n a b p q c d apart (by_edge h) = edge_path k n (global_edge (nodes_of es) k n) c.last q.static.block h (edge_between es k n p.static q.static c d apart)

  -- ---- cycles of events

  -- a chain of events at nodes
  record Arrives (d : Graph) (n : ℕ) (b : Event) : Type 0 where
    pub node : ℕ
    pub is : IsEvent x s node b
    pub thread : InThread b
    pub path : Path (Edges d) n node

  local_arrives : (a b : Event) (n : ℕ) → IsEvent x s n a → InThread a → LocalEdge e a b → Arrives Local n b
  local_arrives a b n p i r =
      let h = local_hop m x s e g t a b r in
      record { node = h.to; is = h.is_to; thread = h.thread; path = subst (λ (z : ℕ). Path (Edges Local) z h.to) (one_node m x s e g t h.from n a i h.is_from p) h.link }

  global_arrives : (a b : Event) (n : ℕ) → IsEvent x s n a → InThread a → GlobalEdge m e a b → Arrives Global n b
  global_arrives a b n p i r =
      let h = global_hop m x s e g t a b i r in
      record { node = h.to; is = h.is_to; thread = h.thread; path = subst (λ (z : ℕ). Path (Edges Global) z h.to) (one_node m x s e g t h.from n a i h.is_from p) (link_path h.from h.to a b h.is_from h.is_to h.link) }

  chain_arrives : (d : Graph) (R : Event → Event → Type 0) → ((a b : Event) (n : ℕ) → IsEvent x s n a → InThread a → R a b → Arrives d n b)
      → (a : Event) (l : List Event) (b : Event) (n : ℕ) → IsEvent x s n a → InThread a → Chain R a l b → Arrives d n b
  chain_arrives d R f a [] b n p i c = f a b n p i c
  chain_arrives d R f a (y ∷ ys) b n p i c =
      let h = f a y n p i c.0 in
      let r = chain_arrives d R f y ys b h.node h.is h.thread c.1 in
      record { node = r.node; is = r.is; thread = r.thread; path = joined (Edges d) h.path r.path }

  chain_target : (R : Event → Event → Type 0) → ((a b : Event) → R a b → InThread b) → (a : Event) (l : List Event) (b : Event) → Chain R a l b → InThread b
  chain_target R f a [] b c = f a b c
  chain_target R f a (y ∷ ys) b c = chain_target R f y ys b c.1

  closed_chain : (d : Graph) (R : Event → Event → Type 0) → ((a b : Event) (n : ℕ) → IsEvent x s n a → InThread a → R a b → Arrives d n b)
      → (a : Event) (l : List Event) (n : ℕ) → IsEvent x s n a → InThread a → Chain R a l a → (k : ℕ) × Path (Edges d) k k
  closed_chain d R f a l n p i c =
      let r = chain_arrives d R f a l a n p i c in
      (n, subst (λ (z : ℕ). Path (Edges d) n z) (one_node m x s e g t r.node n a i r.is p) r.path)

  -- the first edge of a chain
  abbrev First : (Event → Event → Type 0) → Event → Type 0
  First R a = (b : Event) × R a b

  first_edge : (R : Event → Event → Type 0) (a : Event) (l : List Event) (b : Event) → Chain R a l b → First R a
  first_edge R a [] b c = (b, c)
  first_edge R a (y ∷ ys) b c = (y, c.0)

  no_local : ¬ IsCyclic x.problem (λ l. value s l ≡ true) → (l : List Event) → Cycle (LocalEdge e) l → ⊥
  no_local n [] c = c
  no_local n (a ∷ l) c =
      let i = chain_target (LocalEdge e) (λ u v r. (local_target m x s e g t u v r)) a l a c in
      let f = first_edge (LocalEdge e) a l a c in
      let h = local_hop m x s e g t a f.0 f.1 in
      n (Local, closed_chain Local (LocalEdge e) (λ u v k p j r. local_arrives u v k p j r) a l h.from h.is_from i c)

  no_global : ¬ IsCyclic x.problem (λ l. value s l ≡ true) → (l : List Event) → Cycle (GlobalEdge m e) l → ⊥
  no_global n [] c = c
  no_global n (a ∷ l) c =
      let i = chain_target (GlobalEdge m e) (λ u v r. (global_target m x s e g t u v r)) a l a c in
      let f = first_edge (GlobalEdge m e) a l a c in
      let h = global_hop m x s e g t a f.0 i f.1 in
      n (Global, closed_chain Global (GlobalEdge m e) (λ u v k p j r. global_arrives u v k p j r) a l h.from h.is_from i c)

  -- ---- cycles of blocks

  -- an edge of a chain of blocks, from the end of the first block to that of the next
  leave_path : (p q : Event × Event) (k n : ℕ) → IsEvent x s k p.0 → InThread p.0 → IsEvent x s n q.0 → InThread q.0 → Leaves m e p q → Path (Edges Global) (end_of k) (end_of n)
  leave_path p q k n u i v j l =
      let h = global_hop m x s e g t p.0 p.1 i l.0 in
      let same : h.from ≡ k = one_node m x s e g t h.from k p.0 i h.is_from u in
      let f = h.is_from.static in
      let w = h.is_to.static in
      let bf = block_of es h.from f g.static h.is_from.there in
      let bt = block_of es h.to w g.static h.is_to.there in
      let bn = block_of es n v.static g.static v.there in
      let apart : ¬ (f.block ≡ w.block) = λ z. l.1 (same_block_at m x s e g t h.from h.to p.0 p.1 h.is_from h.is_to i h.thread (record { first = f; second = w; is_first = h.is_from.there; is_second = h.is_to.there; same = z })) in
      let next : w.block ≡ v.static.block = same_block es h.to n w v.static h.is_to.there v.there (one_block_at m x s e g t h.to n p.1 q.0 h.is_to v h.thread j l.2) in
      let out = link_blocks h.from h.to p.0 p.1 h.is_from h.is_to bf bt apart h.link in
      let to_end = then_reach (Edges Global) bf.last w.block bn.last out (subst (λ (z : ℕ). Reach (Edges Global) z bn.last) (sym next) (through n v.static bn)) in
      subst (λ (z : ℕ). Path (Edges Global) z (end_of n)) (sym (end_is h.from f bf) ∙ ap end_of same)
      (subst (λ (z : ℕ). Path (Edges Global) bf.last z) (sym (end_is n v.static bn)) to_end)

  first_pair : (p : Event × Event) (l : List (Event × Event)) (q : Event × Event) → Chain (Leaves m e) p l q → GlobalEdge m e p.0 p.1
  first_pair p [] q c = c.0
  first_pair p (y ∷ ys) q c = c.0.0

  chain_blocks : (p : Event × Event) (l : List (Event × Event)) (q : Event × Event) (k n : ℕ) → IsEvent x s k p.0 → InThread p.0 → IsEvent x s n q.0 → InThread q.0 → Chain (Leaves m e) p l q → Path (Edges Global) (end_of k) (end_of n)
  chain_blocks p [] q k n u i v j c = leave_path p q k n u i v j c
  chain_blocks p (y ∷ ys) q k n u i v j c =
      let thread = block_in_thread e p.1 y.0 c.0.2 (global_target m x s e g t p.0 p.1 c.0.0) in
      let h = global_hop m x s e g t y.0 y.1 thread (first_pair y ys q c.1) in
      joined (Edges Global) (leave_path p y k h.from u i h.is_from thread c.0) (chain_blocks y ys q h.from n h.is_from thread v j c.1)

  last_thread : (p : Event × Event) (l : List (Event × Event)) (q : Event × Event) → Chain (Leaves m e) p l q → InThread q.0
  last_thread p [] q c = block_in_thread e p.1 q.0 c.2 (global_target m x s e g t p.0 p.1 c.0)
  last_thread p (y ∷ ys) q c = last_thread y ys q c.1

  no_blocks : ¬ IsCyclic x.problem (λ l. value s l ≡ true) → (l : List (Event × Event)) → Cycle (Leaves m e) l → ⊥
  no_blocks n [] c = c
  no_blocks n (p ∷ l) c =
      let i = last_thread p l p c in
      let h = global_hop m x s e g t p.0 p.1 i (first_pair p l p c) in
      n (Global, (end_of h.from, chain_blocks p l p h.from h.from h.is_from i h.is_from i c))

  -- ---- both

  back : ¬ IsCyclic x.problem (λ l. value s l ≡ true) → Consistent m e
  back n = record { local = no_local n; global = no_global n; blocks = no_blocks n }

  acyclic : Consistent m e → (d : Graph) → HasCycle (Edges d) → ⊥
  acyclic c Local h = no_local_cycle m x s e g t c h.0 h.1
  acyclic c Global h = no_global_cycle m x s e g t c h.0 h.1

  same_cycles : SameCycles m x s e
  same_cycles = ((λ c h. acyclic c h.0 h.1), back)

-- what matches has cycles in both or in neither
pub cycles_agree : CyclesAgree
cycles_agree m x s e g t = same_cycles m x s e g t
