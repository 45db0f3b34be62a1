-- From events to nodes: what the edges of an execution that matches are in the graphs.
use Rattle.std.proofs.Common.{◌≡◌, ℕ, ◌<◌, ◌⊎◌, inl, inr, ⊎_elim, Bool, true, false, not, nat_eq, List, refl, ap, sym, ◌∙◌, subst}
use Rattle.std.specs.Prelude.{Some}
use Rattle.std.proofs.lemmas.Bool.{cases_Bool, cases_order, both_ways, and_parts, eqb-true, true≢false}
use Rattle.std.proofs.lemmas.Option.{none-some}
use Rattle.axiom_model.specs.declared.MemoryModel.{MemoryModel}
use Rattle.axiom_model.specs.declared.MemoryModel.TheVariants.{Sc, Tso, Pso}
use Rattle.axiom_model.specs.declared.Action.{Action}
use Rattle.axiom_model.specs.declared.Action.TheVariants as action
use Rattle.axiom_model.specs.declared.Event.{Event}
use Rattle.axiom_model.specs.declared.Event.TheVariants.{Initial, At}
use Rattle.axiom_model.specs.Execution.{Execution, action_at, Before, SameThread, SameCell, Ordered, Fr}
use Rattle.axiom_model.specs.Models as models
use Rattle.axiom_model.specs.Models.{GlobalRf, LocalEdge, GlobalEdge, Kept}
use Rattle.cnf_problem.specs.declared.problem.Graph.{Graph}
use Rattle.cnf_problem.specs.declared.problem.Graph.TheVariants.{Local}
use Rattle.cnf_problem.specs.Literals.{value}
use Rattle.cnf_problem.specs.Edges.{Path, last, EdgeIn, HasEdge, global_edge}
use Rattle.memory_models.specs.declared.StaticEvent.{StaticEvent}
use Rattle.memory_models.specs.declared.StaticKind.{StaticKind}
use Rattle.memory_models.specs.declared.StaticKind.TheVariants as kind
use Rattle.memory_models.specs.Events.{IsAt, IsOfThread, OneThread}
use Rattle.memory_models.specs.Keeping.{edge, keeps_kinds, IsKept, OnOneCell, IsThere, Way}
use Rattle.memory_models.proofs.Ways.{mapped}
use Rattle.memory_models.proofs.Blocks.{one_event, thread_turned}
use Rattle.event_graph.specs.Laws.{happens}
use Rattle.order_vars.specs.Links.{is_initial, IsWriteOf, IsKindOf}
use Rattle.order_vars.specs.Atoms.{event_at, same_thread, is_global_rf, nodes_of}
use Rattle.encode_match.specs.declared.Encoded.{Encoded}
use Rattle.encode_match.specs.Spelling.{IsEvent, ReadsFrom, IsBefore}
use Rattle.encode_match.specs.Matching.{GraphHolds, Matches, MakesAt, AtNodes, Creates, Joins}
use Rattle.encode_match.proofs.Acts.{keeps_acts, cell_access, not_initial}
use Rattle.encode_match.proofs.Ties.{reads, orders, after, waits, reading_of, ordering_of, static_edge, create_edge, local_tie_edge, global_tie_edge}
use Rattle.encode_match.proofs.Moves.{InThread, no_event, same_event, node_in_thread, thread_acts, one_block_at, event_is}
use Rattle.encode_match.proofs.LocalWalk.{event_happens}

-- an event that makes an action is in a thread
pub acts_in_thread : (e : Execution) (a : Event) (p : Action) → action_at e a ≡ Some p → InThread a
acts_in_thread e Initial p h = absurd (none-some p h)
acts_in_thread e (At h i) p k = record { handle = h; index = i; is = refl }

-- in an order of threads both are in one
before_same : (a b : Event) → Before a b → SameThread a b
before_same (At h i) (At k j) q = q.0
before_same Initial Initial q = q
before_same Initial (At k j) q = absurd q
before_same (At h i) Initial q = q

same_turned : (a b : Event) → SameThread b a → SameThread a b
same_turned Initial Initial q = q
same_turned Initial (At k j) q = absurd q
same_turned (At h i) Initial q = absurd q
same_turned (At h i) (At k j) q = sym q

same_self : (a : Event) → InThread a → SameThread a a
same_self a i = subst (λ (z : Event). SameThread z z) (sym i.is) refl

module _ (m : MemoryModel) (x : Encoded) (s : List Bool) (e : Execution) (g : GraphHolds m x s) (t : Matches x s g.links e) where
  abbrev es : List StaticEvent
  es = x.map.graph.events

  abbrev now : ℕ → Bool
  now = happens s es

  -- an event of a thread has one node
  pub one_node : (k n : ℕ) (a : Event) → InThread a → IsEvent x s k a → IsEvent x s n a → k ≡ n
  one_node k n a i p q = t.threads.once k n i.handle i.index (subst (λ (z : Event). IsEvent x s k z) i.is p) (subst (λ (z : Event). IsEvent x s n z) i.is q)

  initial_kind : (k : ℕ) (p : IsEvent x s k Initial) → is_initial p.static.kind ≡ true
  initial_kind k p =
      ⊎_elim (λ h. h)
      (λ h. let i = node_in_thread x s k Initial p p.static p.there (λ z. both_ways (is_initial p.static.kind) h (ap is_initial z)) in absurd (no_event i.handle i.index i.is))
      (cases_Bool (is_initial p.static.kind))

  initial_is : (k : StaticKind) → is_initial k ≡ true → k ≡ kind.Initial
  initial_is kind.Initial h = refl
  initial_is kind.Read h = absurd (true≢false (sym h))
  initial_is kind.Write h = absurd (true≢false (sym h))
  initial_is kind.Full h = absurd (true≢false (sym h))
  initial_is kind.Start h = absurd (true≢false (sym h))
  initial_is kind.End h = absurd (true≢false (sym h))
  initial_is kind.Join h = absurd (true≢false (sym h))
  initial_is (kind.Create i) h = absurd (true≢false (sym h))

  write_cell : (k c : ℕ) (p : IsEvent x s k Initial) → IsWriteOf es c k → k ≡ c
  write_cell k c p w =
      let is_kind : p.static.kind ≡ kind.Initial = initial_is p.static.kind (initial_kind k p) in
      sym (g.initials k p.static p.there is_kind).0 ∙ (ap (λ (z : StaticEvent). z.cell) (one_event es k p.static w.event p.there w.there) ∙ w.same_cell)

  -- a write of a cell has one node
  one_write : (k n c : ℕ) (a : Event) → IsEvent x s k a → IsEvent x s n a → IsWriteOf es c k → IsWriteOf es c n → k ≡ n
  one_write k n c Initial p q w v = write_cell k c p w ∙ sym (write_cell n c q v)
  one_write k n c (At h i) p q w v = t.threads.once k n h i p q

  kind_thread : (n : ℕ) (a : Event) (k : StaticKind) (c : ℕ) → is_initial k ≡ false → IsKindOf es k c n → IsEvent x s n a → InThread a
  kind_thread n a k c f h p = node_in_thread x s n a p h.event h.there (not_initial h.event.kind k h.same_kind f)

  -- ---- reads and writes

  read_thread : (w r : ℕ) (a : Event) → ReadsFrom x s w r → IsEvent x s r a → InThread a
  read_thread w r a f p = let q = reading_of m x s g w r f in kind_thread r a kind.Read q.cell refl q.reader p

  write_thread : (w v : ℕ) (a : Event) → IsBefore x s w v → IsEvent x s v a → InThread a
  write_thread w v a f p = let q = ordering_of m x s g w v f in kind_thread v a kind.Write q.cell refl q.second p

  -- a from-read edge, at nodes
  record FromRead (a b : Event) : Type 0 where
    pub source : ℕ
    pub read : ℕ
    pub write : ℕ
    pub is_read : IsEvent x s read a
    pub is_write : IsEvent x s write b
    pub reads : ReadsFrom x s source read
    pub before : IsBefore x s source write

  from_read : (a b : Event) → Fr e a b → FromRead a b
  from_read a b f =
      let p = t.rf f.source a f.from in
      let q = t.co f.cell f.source b f.later in
      let r = t.threads.nodes a (action.Read f.cell f.value) f.reads in
      let rd = reading_of m x s g p.0 p.1 p.4 in
      let same_node : r.0 ≡ p.1 = one_node r.0 p.1 a (acts_in_thread e a (action.Read f.cell f.value) f.reads) r.1.is_event p.3 in
      let cell : r.1.is_event.static.cell ≡ f.cell = (cell_access s r.1.is_event.static r.1.bits r.1.is_event.static.kind (action.Read f.cell f.value) f.cell r.1.acts refl).1 in
      let there : IsAt es p.1 r.1.is_event.static = subst (λ (n : ℕ). IsAt es n r.1.is_event.static) same_node r.1.is_event.there in
      let cells : rd.cell ≡ f.cell = sym rd.reader.same_cell ∙ (ap (λ (z : StaticEvent). z.cell) (one_event es p.1 rd.reader.event r.1.is_event.static rd.reader.there there) ∙ cell) in
      let one : q.0 ≡ p.0 = one_write q.0 p.0 f.cell f.source q.2 p.2 q.4.0 (subst (λ (n : ℕ). IsWriteOf es n p.0) cells rd.source) in
      record { source = p.0; read = p.1; write = q.1; is_read = p.3; is_write = q.3; reads = p.4; before = subst (λ (n : ℕ). IsBefore x s n q.1) one q.4.1 }

  -- ---- program order

  -- the nodes of a pair of program order
  record Pair (a b : Event) (p q : Action) : Type 0 where
    pub from : ℕ
    pub to : ℕ
    pub first : MakesAt x s from a p
    pub second : MakesAt x s to b q
    pub of_first : IsOfThread es from first.is_event.static
    pub of_second : IsOfThread es to second.is_event.static
    pub same : first.is_event.static.instance ≡ second.is_event.static.instance
    pub before : from < to

  pair_of : (a b : Event) (p q : Action) → action_at e a ≡ Some p → action_at e b ≡ Some q → Before a b → Pair a b p q
  pair_of a b p q h k l =
      let r = t.threads.nodes a p h in
      let u = t.threads.nodes b q k in
      let o = (t.threads.order r.0 u.0 a b r.1.is_event u.1.is_event).0 l in
      record {
        from = r.0;
        to = u.0;
        first = r.1;
        second = u.1;
        of_first = record { there = r.1.is_event.there; acts = thread_acts x s r.0 a r.1.is_event (acts_in_thread e a p h) };
        of_second = record { there = u.1.is_event.there; acts = thread_acts x s u.0 b u.1.is_event (acts_in_thread e b q k) };
        same = ap (λ (z : StaticEvent). z.instance) (one_event es r.0 r.1.is_event.static o.0.first r.1.is_event.there o.0.is_first.there)
            ∙ (o.0.same ∙ ap (λ (z : StaticEvent). z.instance) (one_event es u.0 o.0.second u.1.is_event.static o.0.is_second.there u.1.is_event.there));
        before = o.1;
      }

  pair_thread : (a b : Event) (p q : Action) (r : Pair a b p q) → OneThread es r.from r.to
  pair_thread a b p q r = record { first = r.first.is_event.static; second = r.second.is_event.static; is_first = r.of_first; is_second = r.of_second; same = r.same }

  abbrev Edges : Graph → ℕ → ℕ → Type 0
  Edges d u v = EdgeIn x.problem (λ l. value s l ≡ true) d u v

  static_path : (d : Graph) (a b : ℕ) → Way g.fixed g.fences now d a b → Path (Edges d) a b
  static_path d a b w = mapped (λ u v. IsThere g.fixed g.fences now (edge d u v)) (Edges d) (λ u v h. static_edge m x s g (edge d u v) h) w

  -- ---- hops

  -- an edge between events, at nodes
  pub record Hop (R : ℕ → ℕ → Type 0) (a b : Event) : Type 0 where
    pub from : ℕ
    pub to : ℕ
    pub is_from : IsEvent x s from a
    pub is_to : IsEvent x s to b
    pub thread : InThread b
    pub link : R from to

  hop_of : (R : ℕ → ℕ → Type 0) (a b : Event) (k n : ℕ) → IsEvent x s k a → IsEvent x s n b → InThread b → R k n → Hop R a b
  hop_of R a b k n p q i r = record { from = k; to = n; is_from = p; is_to = q; thread = i; link = r }

  local_pair : (a b : Event) (o : Ordered e SameCell a b) → Hop (λ u v. Path (Edges Local) u v) a b
  local_pair a b o =
      let r = pair_of a b o.first o.second o.is_first o.is_second o.before in
      let f = r.first.is_event.static in
      let h = r.second.is_event.static in
      let u = cell_access s f r.first.bits f.kind o.first o.holds.0 r.first.acts o.holds.1 in
      let v = cell_access s h r.second.bits h.kind o.second o.holds.0 r.second.acts o.holds.2 in
      let on : OnOneCell es r.from r.to = record { first = f; second = h; is_first = r.first.is_event.there; is_second = r.second.is_event.there; same = r.same; before = r.before; accesses = (u.0, v.0); same_cell = u.1 ∙ sym v.1 } in
      hop_of (λ u v. Path (Edges Local) u v) a b r.from r.to r.first.is_event r.second.is_event (acts_in_thread e b o.second o.is_second)
      (static_path Local r.from r.to (((g.kept.exact now g.possible).local r.from r.to (pair_thread a b o.first o.second r) (event_happens x s r.from a r.first.is_event) (event_happens x s r.to b r.second.is_event)).1 on))

  pub local_hop : (a b : Event) → LocalEdge e a b → Hop (λ u v. Path (EdgeIn x.problem (λ l. value s l ≡ true) Local) u v) a b
  local_hop a b (models.LocalEdge.po o) = local_pair a b o
  local_hop a b (models.LocalEdge.rf f) =
      let p = t.rf a b f in
      hop_of (λ u v. Path (Edges Local) u v) a b p.0 p.1 p.2 p.3 (read_thread p.0 p.1 b p.4 p.3) (last (local_tie_edge m x s g p.0 p.1 (reads p.4 tt)))
  local_hop a b (models.LocalEdge.co c f) =
      let p = t.co c a b f in
      hop_of (λ u v. Path (Edges Local) u v) a b p.0 p.1 p.2 p.3 (write_thread p.0 p.1 b p.4.1 p.3) (last (local_tie_edge m x s g p.0 p.1 (orders p.4.1)))
  local_hop a b (models.LocalEdge.fr f) =
      let p = from_read a b f in
      hop_of (λ u v. Path (Edges Local) u v) a b p.read p.write p.is_read p.is_write (write_thread p.source p.write b p.before p.is_write)
      (last (local_tie_edge m x s g p.read p.write (after p.source p.reads p.before)))

  -- ---- the global graph

  -- a kept pair that happens, or an edge between the blocks of two nodes
  pub data Linked (k n : ℕ) : Type 0 where
    by_order : IsKept m es k n → Linked k n
    by_edge : HasEdge x.problem (λ l. value s l ≡ true) (global_edge (nodes_of es) k n) → Linked k n

  kept_pair : (a b : Event) (p q : Action) (r : Pair a b p q) → (keeps_kinds m r.first.is_event.static.kind r.second.is_event.static.kind ≡ true) ⊎ (r.first.is_event.static.block ≡ r.second.is_event.static.block) → InThread b → Hop Linked a b
  kept_pair a b p q r c i =
      hop_of Linked a b r.from r.to r.first.is_event r.second.is_event i
      (by_order (record { first = r.first.is_event.static; second = r.second.is_event.static; is_first = r.of_first; is_second = r.of_second; same = r.same; before = r.before; kept = c }))

  kept_hop : (a b : Event) → InThread a → Kept m e a b → Hop Linked a b
  kept_hop a b i (models.Kept.in_thread o) =
      let r = pair_of a b o.first o.second o.is_first o.is_second o.before in
      let f = r.first.is_event.static in
      let h = r.second.is_event.static in
      kept_pair a b o.first o.second r (inl (sym (keeps_acts m s f h r.first.bits r.second.bits f.kind h.kind o.first o.second r.first.acts r.second.acts) ∙ o.holds)) (acts_in_thread e b o.second o.is_second)
  kept_hop a b i (models.Kept.in_section o d) =
      let r = pair_of a b o.first o.second o.is_first o.is_second o.before in
      let j = acts_in_thread e b o.second o.is_second in
      let one = one_block_at m x s e g t r.from r.to a b r.first.is_event r.second.is_event i j d in
      kept_pair a b o.first o.second r
      (inr (ap (λ (z : StaticEvent). z.block) (one_event es r.from r.first.is_event.static one.first r.first.is_event.there one.is_first)
      ∙ (one.same ∙ ap (λ (z : StaticEvent). z.block) (one_event es r.to one.second r.second.is_event.static one.is_second r.second.is_event.there)))) j
  kept_hop a b i (models.Kept.creates {h = h} {f = f} {v = v} p q o) =
      let made : Creates e a b = record { handle = h; function = f; arg = v; is_create = p; is_start = q; of_handle = o } in
      let r = t.threads.creates a b made in
      hop_of Linked a b r.0 r.1 r.2 r.3 (acts_in_thread e b action.Start q) (by_edge (create_edge m x s g r.0 r.1 r.4.0))
  kept_hop a b i (models.Kept.joins {h = h} p o q) =
      let made : Joins e a b = record { handle = h; is_end = p; of_handle = o; is_join = q } in
      let r = t.joins a b made in
      hop_of Linked a b r.0 r.1 r.2 r.3 (acts_in_thread e b (action.Join h) q) (by_edge (global_tie_edge m x s g r.0 r.1 (waits refl r.4)))
  kept_hop a b i (models.Kept.initial q) = absurd (no_event i.handle i.index i.is)

  -- a source in another thread is seen by all
  same_instance : (k n : ℕ) (a b : Event) (p : IsEvent x s k a) (q : IsEvent x s n b) → InThread b → same_thread (event_at es k) (event_at es n) ≡ true → SameThread a b
  same_instance k n a b p q i h =
      let u : event_at es k ≡ p.static = event_is es k p.static (record { instance = 0; kind = kind.Full; cell = 0; guard = record { 0 = 3 }; block = k }) p.there in
      let v : event_at es n ≡ q.static = event_is es n q.static (record { instance = 0; kind = kind.Full; cell = 0; guard = record { 0 = 3 }; block = n }) q.there in
      let both : same_thread p.static q.static ≡ true = ap (λ (z : StaticEvent). same_thread z q.static) (sym u) ∙ (ap (λ (z : StaticEvent). same_thread (event_at es k) z) (sym v) ∙ h) in
      let parts = and_parts (not (is_initial p.static.kind)) (nat_eq p.static.instance q.static.instance) both in
      let acts : ¬ (p.static.kind ≡ kind.Initial) = λ z. true≢false (sym (sym (ap (λ (y : StaticKind). not (is_initial y)) z) ∙ parts.0)) in
      let thread : OneThread es k n = record { first = p.static; second = q.static; is_first = record { there = p.there; acts = acts }; is_second = record { there = q.there; acts = thread_acts x s n b q i }; same = eqb-true p.static.instance q.static.instance parts.1 } in
      ⊎_elim
      (λ same. subst (λ (z : Event). SameThread a z) (same_event x s n a b (subst (λ (y : ℕ). IsEvent x s y a) same p) q) (same_self a (node_in_thread x s k a p p.static p.there acts)))
      (λ l. ⊎_elim
      (λ w. before_same a b ((t.threads.order k n a b p q).1 (thread, w)))
      (λ w. same_turned a b (before_same b a ((t.threads.order n k b a q p).1 (thread_turned es k n thread, w)))) l)
      (cases_order k n)

  seen : (k n : ℕ) (a b : Event) (p : IsEvent x s k a) (q : IsEvent x s n b) → InThread b → ¬ SameThread a b → not (same_thread (event_at es k) (event_at es n)) ≡ true
  seen k n a b p q i apart =
      ⊎_elim (λ h. absurd (apart (same_instance k n a b p q i h))) (λ h. ap not h) (cases_Bool (same_thread (event_at es k) (event_at es n)))

  global_rf : (d : MemoryModel) (a b : Event) → GlobalRf d e a b → (r : AtNodes x s (ReadsFrom x s) a b) × (is_global_rf d es r.0 r.1 ≡ true)
  global_rf Sc a b f = (t.rf a b f, refl)
  global_rf Tso a b f = let r = t.rf a b f.0 in (r, seen r.0 r.1 a b r.2 r.3 (read_thread r.0 r.1 b r.4 r.3) f.1)
  global_rf Pso a b f = let r = t.rf a b f.0 in (r, seen r.0 r.1 a b r.2 r.3 (read_thread r.0 r.1 b r.4 r.3) f.1)

  pub global_hop : (a b : Event) → InThread a → GlobalEdge m e a b → Hop Linked a b
  global_hop a b i (models.GlobalEdge.kept k) = kept_hop a b i k
  global_hop a b i (models.GlobalEdge.rf f) =
      let u = global_rf m a b f in
      let p = u.0 in
      hop_of Linked a b p.0 p.1 p.2 p.3 (read_thread p.0 p.1 b p.4 p.3) (by_edge (global_tie_edge m x s g p.0 p.1 (reads p.4 u.1)))
  global_hop a b i (models.GlobalEdge.co c f) =
      let p = t.co c a b f in
      hop_of Linked a b p.0 p.1 p.2 p.3 (write_thread p.0 p.1 b p.4.1 p.3) (by_edge (global_tie_edge m x s g p.0 p.1 (orders p.4.1)))
  global_hop a b i (models.GlobalEdge.fr f) =
      let p = from_read a b f in
      hop_of Linked a b p.read p.write p.is_read p.is_write (write_thread p.source p.write b p.before p.is_write)
      (by_edge (global_tie_edge m x s g p.read p.write (after p.source p.reads p.before)))

  -- ---- no edge leads to an initial write

  pub local_target : (a b : Event) → LocalEdge e a b → InThread b
  local_target a b r = (local_hop a b r).thread

  kept_target : (a b : Event) → Kept m e a b → InThread b
  kept_target a b (models.Kept.in_thread o) = acts_in_thread e b o.second o.is_second
  kept_target a b (models.Kept.in_section o d) = acts_in_thread e b o.second o.is_second
  kept_target a b (models.Kept.creates p q o) = acts_in_thread e b action.Start q
  kept_target a b (models.Kept.joins {h = h} p o q) = acts_in_thread e b (action.Join h) q
  kept_target a b (models.Kept.initial {q = p} q) = acts_in_thread e b p q

  pub global_target : (a b : Event) → GlobalEdge m e a b → InThread b
  global_target a b (models.GlobalEdge.kept k) = kept_target a b k
  global_target a b (models.GlobalEdge.rf f) = let p = (global_rf m a b f).0 in read_thread p.0 p.1 b p.4 p.3
  global_target a b (models.GlobalEdge.co c f) = let p = t.co c a b f in write_thread p.0 p.1 b p.4.1 p.3
  global_target a b (models.GlobalEdge.fr f) = let p = from_read a b f in write_thread p.source p.write b p.before p.is_write
