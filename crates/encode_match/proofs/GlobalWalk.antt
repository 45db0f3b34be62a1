-- A closed path in a problem's global graph is a cycle of events or of blocks.
use Rattle.std.proofs.Common.{◌≡◌, ℕ, ◌+◌, ◌<◌, ◌≤◌, ◌⊎◌, inl, inr, ⊎_elim, Bool, true, false, ◌&&◌, ◌||◌, nat_eq, List, refl, ap, sym, ◌∙◌, subst, arith}
use Rattle.std.proofs.lemmas.Bool.{cases_Bool, cases_lt, cases_eq, cases_order, both_ways, and_from, and_parts, or_left, or_right, or_cases, eq-eqb, eqb-true}
use Rattle.axiom_model.specs.declared.MemoryModel.{MemoryModel}
use Rattle.axiom_model.specs.declared.Event.{Event}
use Rattle.axiom_model.specs.declared.Event.TheVariants.{At}
use Rattle.axiom_model.specs.Execution.{Execution, SameBlock}
use Rattle.axiom_model.specs.Models.{GlobalEdge, Consistent}
use Rattle.cnf_problem.specs.declared.problem.Graph.TheVariants.{Local, Global}
use Rattle.cnf_problem.specs.declared.problem.Edge.{Edge}
use Rattle.cnf_problem.specs.Literals.{value}
use Rattle.cnf_problem.specs.Edges.{Path, last, EdgeIn, global_edge}
use Rattle.memory_models.specs.declared.StaticEvent.{StaticEvent}
use Rattle.memory_models.specs.declared.StaticKind.{StaticKind}
use Rattle.memory_models.specs.declared.StaticKind.TheVariants as kind
use Rattle.memory_models.specs.Events.{IsAt, IsOfThread, OneThread, OneBlock, IsSection, AreStatic, IsPossible}
use Rattle.memory_models.specs.Keeping.{edge, keeps_kinds, IsKept, KeptPair, IsThere, always, fenced}
use Rattle.memory_models.proofs.Ways.{mapped}
use Rattle.memory_models.proofs.Blocks.{one_event, thread_joined, thread_turned, block_turned, block_joined, block_self, block_front, block_thread, to_head}
use Rattle.event_graph.specs.Laws.{happens}
use Rattle.order_vars.specs.Atoms.{last_in, event_at, nodes_of}
use Rattle.encode_match.specs.declared.Encoded.{Encoded}
use Rattle.encode_match.specs.Spelling.{IsEvent, event_by}
use Rattle.encode_match.specs.Matching.{GraphHolds, Matches, AtEvents, IsCreation}
use Rattle.encode_match.proofs.Acts.{keeps_before_full, not_initial}
use Rattle.encode_match.proofs.Trails.{Stretch, Trail, within, out, closed}
use Rattle.encode_match.proofs.BlockEnds.{BlockOf, block_of, section_of, same_block, edge_inside, edge_between}
use Rattle.encode_match.proofs.Ties.{Tie, Step, static, created, tied, step_of, local_not_global, happens_is}
use Rattle.encode_match.proofs.Moves.{InThread, same_event, thread_acts, event_in_thread, node_in_thread, same_block_at, one_block_at, kept_at, global_move, create_move, tie_target, IsActing, event_is, event_at_node}
use Rattle.encode_match.proofs.Turns.{Reach, reach_then, carry, carry_reach, Loop, loop_of}
use Rattle.encode_match.proofs.LocalWalk.{there_goes_on, event_happens, stretch_on}

-- ---- an event in a thread is in its own block

own_block : (x : Execution) (h i : ℕ) → SameBlock x (At h i) (At h i)
own_block x h i = (refl, inl refl)

block_of_self : (x : Execution) (a : Event) → InThread a → SameBlock x a a
block_of_self x a i = subst (λ (z : Event). SameBlock x z z) (sym i.is) (own_block x i.handle i.index)

-- ---- events of one block

-- what is in a block with an action of a thread is one of that thread
pub block_acts : (es : List StaticEvent) (a b : ℕ) (f : StaticEvent) → AreStatic es → OneBlock es a b → IsOfThread es a f → OneThread es a b
block_acts es a b f st o h =
    ⊎_elim
    (λ same. subst (λ (n : ℕ). OneThread es a n) same (record { first = f; second = f; is_first = h; is_second = h; same = refl }))
    (λ l. ⊎_elim (λ k. block_thread es a b st k o) (λ k. thread_turned es b a (block_thread es b a st k (block_turned es a b o))) l)
    (cases_order a b)

-- an event that stands before one of another block stands before the first of that block
pub before_block : (es : List StaticEvent) (a b : ℕ) (f h : StaticEvent) → AreStatic es → IsAt es a f → IsAt es b h → a < b → ¬ (f.block ≡ h.block) → a < h.block
before_block es a b f h st p q l n = ⊎_elim (λ k. k) (λ k. absurd (n (st.unbroken a b h f q k l p))) (cases_lt a h.block)

-- ---- with the close of each section that was begun

module _ (es : List StaticEvent) (st : AreStatic es) (happens : ℕ → Bool) (possible : IsPossible es happens) where
  abbrev last_of : ℕ → ℕ
  last_of n = last_in (event_at es n).block (event_at es n).block 0 es

  abbrev pub plus : ℕ → Bool
  plus n = happens n || (happens (event_at es n).block && nat_eq n (last_of n))

  event_there : (n : ℕ) (f : StaticEvent) → IsAt es n f → event_at es n ≡ f
  event_there n f h = event_is es n f (record { instance = 0; kind = kind.Full; cell = 0; guard = record { 0 = 3 }; block = n }) h

  last_there : (n : ℕ) (f : StaticEvent) (b : BlockOf es n f) → last_of n ≡ b.last
  last_there n f b = ap (λ (z : StaticEvent). last_in z.block z.block 0 es) (event_there n f b.there) ∙ b.last_is

  pub plus_real : (n : ℕ) → happens n ≡ true → plus n ≡ true
  plus_real n h = or_left (happens n) (happens (event_at es n).block && nat_eq n (last_of n)) h

  pub plus_last : (n : ℕ) (f : StaticEvent) (b : BlockOf es n f) → happens f.block ≡ true → n ≡ b.last → plus n ≡ true
  plus_last n f b h e =
      or_right (happens n) (happens (event_at es n).block && nat_eq n (last_of n))
      (and_from (happens (event_at es n).block) (nat_eq n (last_of n)) (ap (λ (z : StaticEvent). happens z.block) (event_there n f b.there) ∙ h) (eq-eqb n (last_of n) (e ∙ sym (last_there n f b))))

  -- where it is so, the first of the block happens; and the event does, or is the last of the block
  pub plus_cases : (n : ℕ) (f : StaticEvent) (b : BlockOf es n f) → plus n ≡ true → (happens n ≡ true) ⊎ ((happens f.block ≡ true) × (n ≡ b.last))
  plus_cases n f b h =
      ⊎_elim
      (λ p. inl p)
      (λ p. let r = and_parts (happens (event_at es n).block) (nat_eq n (last_of n)) p in
      inr (ap (λ (z : StaticEvent). happens z.block) (sym (event_there n f b.there)) ∙ r.0, eqb-true n (last_of n) r.1 ∙ last_there n f b))
      (or_cases (happens n) (happens (event_at es n).block && nat_eq n (last_of n)) h)

  pub plus_first : (n : ℕ) (f : StaticEvent) → IsAt es n f → plus n ≡ true → happens f.block ≡ true
  plus_first n f h p = ⊎_elim (λ q. possible.inside n f h q) (λ q. q.0) (plus_cases n f (block_of es n f st h) p)

  section_last : (o c : ℕ) (f : StaticEvent) (b : BlockOf es o f) → IsSection es o c → b.last ≡ c
  section_last o c f b k =
      let blocks : f.block ≡ k.one.second.block = same_block es o c f k.one.second b.there k.one.is_second k.one in
      let down : c ≤ b.last = ⊎_elim (λ l. absurd (b.none c k.one.second l k.one.is_second (sym blocks))) (λ l. l) (cases_lt b.last c) in
      let up : b.last ≤ c = ⊎_elim
      (λ l. absurd (k.closes (block_front es o (c + 1) b.last st (record { first = f; second = b.closing; is_first = b.there; is_second = b.last_there; same = sym b.last_block }) (omega (arith, k.later)) (omega (arith, l)))))
      (λ l. l) (cases_lt c b.last) in
      omega (arith, down, up)

  behind_plus : (o c : ℕ) → IsSection es o c → plus o ≡ true → plus c ≡ true
  behind_plus o c k h =
      let f = k.one.first in
      let e = k.one.second in
      let b = block_of es o f st k.one.is_first in
      let d = block_of es c e st k.one.is_second in
      let opened : f.block ≡ o = k.opens f k.one.is_first in
      let first : happens f.block ≡ true = plus_first o f k.one.is_first h in
      plus_last c e d (subst (λ (n : ℕ). happens n ≡ true) k.one.same first) (sym (section_last o c f b k) ∙ (sym b.last_is ∙ (ap (λ (n : ℕ). last_in n n 0 es) k.one.same ∙ d.last_is)))

  pub possible_plus : IsPossible es plus
  possible_plus = record {
    inside = λ n f h p. plus_real f.block (plus_first n f h p);
    behind = λ o c n k ot l p q. behind_plus o c k q;
  }

-- ---- the walk

module _ (m : MemoryModel) (x : Encoded) (s : List Bool) (e : Execution) (g : GraphHolds m x s) (t : Matches x s g.links e) where
  abbrev es : List StaticEvent
  es = x.map.graph.events

  abbrev now : ℕ → Bool
  now = happens s es

  abbrev more : ℕ → Bool
  more = plus es g.static now g.possible

  abbrev Edges : ℕ → ℕ → Type 0
  Edges u v = EdgeIn x.problem (λ l. value s l ≡ true) Global u v

  abbrev Static : ℕ → ℕ → Type 0
  Static u v = IsThere g.fixed g.fences now (edge Global u v)

  abbrev Moving : ℕ → ℕ → Type 0
  Moving u v = AtEvents x s (GlobalEdge m e) u v

  -- an event of a node of a thread
  record Here (n : ℕ) (a : Event) : Type 0 where
    pub is : IsEvent x s n a
    pub thread : InThread a

  here_at : (n : ℕ) (f : StaticEvent) → IsOfThread es n f → now n ≡ true → Here n (event_by x s n f)
  here_at n f h k = let p = event_at_node x s n f h.there k in record { is = p; thread = event_in_thread x s n (event_by x s n f) p h.acts }

  here_of : (n : ℕ) (a : Event) → IsEvent x s n a → (f : StaticEvent) → IsOfThread es n f → Here n a
  here_of n a p f h = record { is = p; thread = node_in_thread x s n a p f h.there h.acts }

  -- the walk from p stands at n: the event there, or where it doesn't happen one of its block
  record Stands (p : Event) (n : ℕ) : Type 0 where
    pub node : ℕ
    pub event : Event
    pub here : Here node event
    pub one : OneBlock es node n
    pub exact : now n ≡ true → node ≡ n
    pub trail : Stretch m e p event

  stands_at : (p : Event) (n : ℕ) (a : Event) → Here n a → Stretch m e p a → Stands p n
  stands_at p n a h r = record { node = n; event = a; here = h; one = block_self es n h.is.static h.is.there; exact = λ k. refl; trail = r }

  -- an edge between events that stand for nodes
  crossing : (p z a b w : Event) (n k : ℕ) → Stretch m e p z → SameBlock e z a → GlobalEdge m e a b → Here n a → Here k b → ¬ OneBlock es n k → SameBlock e b w → Trail m e p w
  crossing p z a b w n k r o d h i apart q = out m e p z a b w r o d (λ both. apart (one_block_at m x s e g t n k a b h.is i.is h.thread i.thread both)) q

  both_stand : (p : Event) (a b : ℕ) (f h : StaticEvent) → IsOfThread es b h → Stands p a → now a ≡ true → now b ≡ true → IsAt es a f → Moving a b → Stands p b
  both_stand p a b f h ob k ha hb fa r =
      let i = here_of b r.1 r.3 h ob in
      let is_a : IsEvent x s a k.event = subst (λ (n : ℕ). IsEvent x s n k.event) (k.exact ha) k.here.is in
      let j : Here a k.event = record { is = is_a; thread = k.here.thread } in
      let d : GlobalEdge m e k.event r.1 = subst (λ (z : Event). GlobalEdge m e z r.1) (same_event x s a r.0 k.event r.2 is_a) r.4 in
      stands_at p b r.1 i (inr (⊎_elim
      (λ same. within m e p k.event r.1 k.trail d
      (same_block_at m x s e g t a b k.event r.1 is_a i.is j.thread i.thread (record { first = f; second = h; is_first = fa; is_second = ob.there; same = same })))
      (λ other. crossing p k.event k.event r.1 r.1 a b k.trail (block_of_self e k.event j.thread) d j i (λ o. other (same_block es a b f h fa ob.there o)) (block_of_self e r.1 i.thread))
      (cases_eq f.block h.block)))

  -- into a section of which only the last event is at b: as into its first
  into_first : (p : Event) (a b : ℕ) (f h : StaticEvent) → IsKept m es a b → IsAt es a f → IsAt es b h → Stands p a → now a ≡ true → now b ≡ false → now h.block ≡ true → ¬ (f.block ≡ h.block) → Stands p b
  into_first p a b f h o fa hb k na nb first other =
      let bb = block_of es b h g.static hb in
      let below : h.block < b = ⊎_elim (λ l. l) (λ l. let same : h.block ≡ b = omega (arith, l, g.static.own_or_before b h hb) in absurd {A = h.block < b} (both_ways (now b) nb (subst (λ (n : ℕ). now n ≡ true) same first))) (cases_lt h.block b) in
      let ot = g.static.of_thread b h hb below in
      let full : ot.first.kind ≡ kind.Full = g.static.begins h.block bb.last ot.first (section_of es b h bb (omega (arith, below, bb.to_last))) ot.is_first.there in
      let before : a < h.block = before_block es a b f h g.static fa hb o.before other in
      let is_kept : IsKept m es a h.block = record {
        first = o.first;
        second = ot.first;
        is_first = o.is_first;
        is_second = ot.is_first;
        same = o.same ∙ (ap (λ (z : StaticEvent). z.instance) (one_event es b o.second ot.second o.is_second.there ot.is_second.there) ∙ sym ot.same);
        before = before;
        kept = inl (ap (λ (z : StaticKind). keeps_kinds m o.first.kind z) full ∙ keeps_before_full m o.first.kind);
      } in
      let blocks : ot.first.block ≡ h.block = g.static.heads b h ot.first hb ot.is_first.there in
      let r = both_stand p a h.block f ot.first ot.is_first k na first fa (kept_at m x s e g t a h.block is_kept na first) in
      record {
        node = r.node;
        event = r.event;
        here = r.here;
        one = block_joined es r.node h.block b r.one (to_head es b h g.static hb);
        exact = λ q. absurd (both_ways (now b) nb q);
        trail = r.trail;
      }

  -- behind a section that was begun and whose last event doesn't happen nothing does
  nothing_behind : (a b : ℕ) (f h : StaticEvent) → IsKept m es a b → (k : BlockOf es a f) → IsAt es b h → now a ≡ false → now f.block ≡ true → a ≡ k.last → now h.block ≡ true → ⊥
  nothing_behind a b f h o k hb na first is_last second =
      let other : ¬ (f.block ≡ h.block) = λ same. k.none b h (omega (arith, o.before, is_last)) hb (sym same) in
      let before : a < h.block = before_block es a b f h g.static k.there hb o.before other in
      let below : f.block < a = ⊎_elim (λ l. l) (λ l. let same : f.block ≡ a = omega (arith, l, k.from_first) in absurd (both_ways (now a) na (subst (λ (n : ℕ). now n ≡ true) same first))) (cases_lt f.block a) in
      let ab : OneThread es a b = record { first = o.first; second = o.second; is_first = o.is_first; is_second = o.is_second; same = o.same } in
      let ah : OneThread es a h.block = ⊎_elim
      (λ l. ⊎_elim (λ q. let bb = g.static.of_thread b h hb q in g.static.threads_apart a h.block b bb.first before q ab bb.is_first.there)
      (λ q. let same : b ≡ h.block = omega (arith, q, l) in subst (λ (n : ℕ). OneThread es a n) same ab) (cases_lt h.block b))
      (λ l. absurd (omega (arith, l, g.static.own_or_before b h hb)))
      (cases_lt h.block (b + 1)) in
      let closes = g.possible.behind f.block k.last h.block (section_of es a f k (omega (arith, below, k.to_last))) (thread_joined es f.block a h.block (g.static.of_thread a f k.there below) ah) (omega (arith, before, is_last)) second first in
      both_ways (now a) na (subst (λ (n : ℕ). now n ≡ true) (sym is_last) closes)

  kept_on : (p : Event) (a b : ℕ) → Stands p a → KeptPair m es more a b → Stands p b
  kept_on p a b k h =
      let o = h.0 in
      let f = o.first in
      let c = o.second in
      let ba = block_of es a f g.static o.is_first.there in
      let bb = block_of es b c g.static o.is_second.there in
      let second : now c.block ≡ true = plus_first es g.static now g.possible b c o.is_second.there h.2 in
      ⊎_elim
      (λ na. ⊎_elim
      (λ nb. both_stand p a b f c o.is_second k na nb o.is_first.there (kept_at m x s e g t a b o na nb))
      (λ nb. ⊎_elim
      (λ same. record {
        node = k.node;
        event = k.event;
        here = k.here;
        one = block_joined es k.node a b k.one (record { first = f; second = c; is_first = o.is_first.there; is_second = o.is_second.there; same = same });
        exact = λ q. absurd (both_ways (now b) nb q);
        trail = k.trail;
      })
      (λ other. into_first p a b f c o o.is_first.there o.is_second.there k na nb second other)
      (cases_eq f.block c.block))
      (cases_Bool (now b)))
      (λ na. ⊎_elim
      (λ q. absurd (both_ways (now a) na q))
      (λ q. absurd (nothing_behind a b f c o ba o.is_second.there na q.0 q.1 second))
      (plus_cases es g.static now g.possible a f ba h.1))
      (cases_Bool (now a))

  -- ---- places on the way

  -- the walk from p has come to n: by edges of the execution to the event of a node, and by static ones from there
  record Place (p : Event) (n : ℕ) : Type 0 where
    pub node : ℕ
    pub event : Event
    pub here : Here node event
    pub trail : Stretch m e p event
    pub way : Reach Static node n

  more_there : (d : Edge) → IsThere g.fixed g.fences now d → IsThere g.fixed g.fences more d
  more_there d (always c) = always c
  more_there d (fenced f c same h) = fenced f c same (plus_real es g.static now g.possible d.from h)

  settled : (p : Event) (n : ℕ) → Place p n → more n ≡ true → Stands p n
  settled p n k h =
      ⊎_elim
      (λ same. subst (λ (z : ℕ). Stands p z) same (stands_at p k.node k.event k.here k.trail))
      (λ w. carry (KeptPair m es more) (Stands p) (λ a b i q. kept_on p a b i q) (stands_at p k.node k.event k.here k.trail)
      (((g.kept.exact more (possible_plus es g.static now g.possible)).global k.node n (stretch_on m x s g Global w)
      (plus_real es g.static now g.possible k.node (event_happens x s k.node k.event k.here.is)) h).0
      (mapped Static (λ u v. IsThere g.fixed g.fences more (edge Global u v)) (λ u v q. more_there (edge Global u v) q) w)))
      k.way

  -- ---- edges between tied nodes

  -- the edge that leads from the block of c to that of d, or from c to d inside it
  data Leading (c d z w : ℕ) (f h : StaticEvent) (k : BlockOf es c f) : Type 0 where
    inner : f.block ≡ h.block → z ≡ c → w ≡ d → Leading c d z w f h k
    outer : ¬ (f.block ≡ h.block) → z ≡ k.last → w ≡ h.block → Leading c d z w f h k

  leading : (c d z w : ℕ) (f h : StaticEvent) (k : BlockOf es c f) → BlockOf es d h → edge Global z w ≡ global_edge (nodes_of es) c d → Leading c d z w f h k
  leading c d z w f h k l same =
      ⊎_elim
      (λ q. let r = same ∙ edge_inside es c d f h k l q in inner q (ap (λ (n : Edge). n.from) r) (ap (λ (n : Edge). n.to) r))
      (λ q. let r = same ∙ edge_between es c d f h k l q in outer q (ap (λ (n : Edge). n.from) r) (ap (λ (n : Edge). n.to) r))
      (cases_eq f.block h.block)

  -- where it lands
  first_here : (d : ℕ) (b : Event) (i : IsEvent x s d b) → IsOfThread es d i.static → (a : Event) × Here i.static.block a × OneBlock es d i.static.block
  first_here d b i acts =
      let k = block_of es d i.static g.static i.there in
      let one = block_turned es i.static.block d (to_head es d i.static g.static i.there) in
      let ot = block_acts es d i.static.block i.static g.static one acts in
      (event_by x s i.static.block ot.second, here_at i.static.block ot.second ot.is_second (g.possible.inside d i.static i.there (event_happens x s d b i)), one)

  record Landed (p : Event) (w : ℕ) : Type 0 where
    pub event : Event
    pub here : Here w event
    pub trail : Trail m e p event

  -- a landing without a walk
  landing : (c d z w : ℕ) (f : StaticEvent) (k : BlockOf es c f) (b : Event) (i : IsEvent x s d b) → IsOfThread es d i.static → Leading c d z w f i.static k → (a : Event) × Here w a
  landing c d z w f k b i acts (inner q u v) = (b, subst (λ (n : ℕ). Here n b) (sym v) (here_of d b i i.static acts))
  landing c d z w f k b i acts (outer q u v) = let r = first_here d b i acts in (r.0, subst (λ (n : ℕ). Here n r.0) (sym v) r.1)

  inner_move : (p : Event) (c d : ℕ) (a b : Event) (i : IsEvent x s c a) (j : IsEvent x s d b) → IsOfThread es d j.static → GlobalEdge m e a b → i.static.block ≡ j.static.block → Place p c → Landed p d
  inner_move p c d a b i j acts r q k =
      let st = settled p c k (plus_real es g.static now g.possible c (event_happens x s c a i)) in
      let is_c : IsEvent x s c st.event = subst (λ (n : ℕ). IsEvent x s n st.event) (st.exact (event_happens x s c a i)) st.here.is in
      let h = here_of d b j j.static acts in
      record {
        event = b;
        here = h;
        trail = within m e p st.event b st.trail (subst (λ (y : Event). GlobalEdge m e y b) (same_event x s c a st.event i is_c) r)
            (same_block_at m x s e g t c d st.event b is_c j st.here.thread h.thread (record { first = i.static; second = j.static; is_first = i.there; is_second = j.there; same = q }));
      }

  outer_move : (p : Event) (c d : ℕ) (a b : Event) (i : IsEvent x s c a) (j : IsEvent x s d b) (k : BlockOf es c i.static) → IsOfThread es d j.static → GlobalEdge m e a b → ¬ (i.static.block ≡ j.static.block) → Place p k.last → Landed p j.static.block
  outer_move p c d a b i j k acts r q l =
      let first : now i.static.block ≡ true = g.possible.inside c i.static i.there (event_happens x s c a i) in
      let bl = block_of es k.last k.closing g.static k.last_there in
      let at_last : k.last ≡ bl.last = sym k.last_is ∙ (ap (λ (n : ℕ). last_in n n 0 es) (sym k.last_block) ∙ bl.last_is) in
      let st = settled p k.last l (plus_last es g.static now g.possible k.last k.closing bl (subst (λ (n : ℕ). now n ≡ true) (sym k.last_block) first) at_last) in
      let back : OneBlock es st.node c = block_joined es st.node k.last c st.one (record { first = k.closing; second = i.static; is_first = k.last_there; is_second = i.there; same = k.last_block }) in
      let sa : IsOfThread es st.node st.here.is.static = record { there = st.here.is.there; acts = thread_acts x s st.node st.event st.here.is st.here.thread } in
      let oc = block_acts es st.node c st.here.is.static g.static back sa in
      let ha = here_of c a i oc.second oc.is_second in
      let hb = here_of d b j j.static acts in
      let w = first_here d b j acts in
      record {
        event = w.0;
        here = w.1;
        trail = crossing p st.event a b w.0 c d st.trail (same_block_at m x s e g t st.node c st.event a st.here.is i st.here.thread ha.thread back) r ha hb
            (λ o. q (same_block es c d i.static j.static i.there j.there o))
            (same_block_at m x s e g t d j.static.block b w.0 j w.1.is hb.thread w.1.thread w.2);
      }

  move_by : (p : Event) (c d z w : ℕ) (a b : Event) (i : IsEvent x s c a) (j : IsEvent x s d b) (k : BlockOf es c i.static) → IsOfThread es d j.static → GlobalEdge m e a b → Place p z → Leading c d z w i.static j.static k → Landed p w
  move_by p c d z w a b i j k acts r l (inner q u v) =
      subst (λ (n : ℕ). Landed p n) (sym v) (inner_move p c d a b i j acts r q (subst (λ (n : ℕ). Place p n) u l))
  move_by p c d z w a b i j k acts r l (outer q u v) =
      subst (λ (n : ℕ). Landed p n) (sym v) (outer_move p c d a b i j k acts r q (subst (λ (n : ℕ). Place p n) u l))

  acts_as : (d : ℕ) (b : Event) (j : IsEvent x s d b) → IsActing m x s e g t d → IsOfThread es d j.static
  acts_as d b j h = subst (λ (f : StaticEvent). IsOfThread es d f) (one_event es d h.static j.static h.of_thread.there j.there) h.of_thread

  -- ---- threads that are not created

  -- the Start of the node's thread doesn't happen
  record Sleeps (n : ℕ) : Type 0 where
    pub start : ℕ
    pub static : StaticEvent
    pub there : IsAt es start static
    pub is_start : static.kind ≡ kind.Start
    pub asleep : value s static.guard ≡ false
    pub one : OneThread es start n

  asleep_at : (n : ℕ) → Sleeps n → now n ≡ false
  asleep_at n k = g.asleep k.start n k.static k.there k.is_start k.asleep k.one

  -- so it is of an event of which another one of its block sleeps
  asleep_in_block : (n k : ℕ) → Sleeps n → OneBlock es n k → now k ≡ false
  asleep_in_block n k z o =
      g.asleep z.start k z.static z.there z.is_start z.asleep (thread_joined es z.start n k z.one (block_acts es n k z.one.second g.static o z.one.is_second))

  last_with : (c : ℕ) (f : StaticEvent) (k : BlockOf es c f) → OneBlock es k.last c
  last_with c f k = record { first = k.closing; second = f; is_first = k.last_there; is_second = k.there; same = k.last_block }

  -- where an edge leads from: an event of the block of c
  source_block : (c d z w : ℕ) (f h : StaticEvent) (k : BlockOf es c f) → Leading c d z w f h k → OneBlock es z c
  source_block c d z w f h k (inner q u v) = subst (λ (n : ℕ). OneBlock es n c) (sym u) (block_self es c f k.there)
  source_block c d z w f h k (outer q u v) = subst (λ (n : ℕ). OneBlock es n c) (sym u) (last_with c f k)

  target_block : (c d z w : ℕ) (f h : StaticEvent) (k : BlockOf es c f) → IsAt es d h → Leading c d z w f h k → OneBlock es d w
  target_block c d z w f h k l (inner q u v) = subst (λ (n : ℕ). OneBlock es d n) (sym v) (block_self es d h l)
  target_block c d z w f h k l (outer q u v) = subst (λ (n : ℕ). OneBlock es d n) (sym v) (block_turned es h.block d (to_head es d h g.static l))

  no_sleeping_tie : (c d z w : ℕ) → Tie m x s g.links Global c d → edge Global z w ≡ global_edge (nodes_of es) c d → Sleeps z → ⊥
  no_sleeping_tie c d z w k same a =
      let r = global_move m x s e g t c d k in
      let kc = block_of es c r.2.static g.static r.2.there in
      let kd = block_of es d r.3.static g.static r.3.there in
      both_ways (now c) (asleep_in_block z c a (source_block c d z w r.2.static r.3.static kc (leading c d z w r.2.static r.3.static kc kd same))) (event_happens x s c r.0 r.2)

  start_sleeps : (c d z w : ℕ) (k : IsCreation es c d) → edge Global z w ≡ global_edge (nodes_of es) c d → now c ≡ false → Sleeps w
  start_sleeps c d z w k same n =
      let kc = block_of es c k.creating g.static k.creates in
      let kd = block_of es d k.starting g.static k.starts in
      let own : IsOfThread es d k.starting = record { there = k.starts; acts = not_initial k.starting.kind kind.Start k.is_start refl } in
      record {
        start = d;
        static = k.starting;
        there = k.starts;
        is_start = k.is_start;
        asleep = ap (value s) (sym (g.creations c d k).same_guard) ∙ (sym (happens_is s es c k.creating k.creates) ∙ n);
        one = block_acts es d w k.starting g.static (target_block c d z w k.creating k.starting kc k.starts (leading c d z w k.creating k.starting kc kd same)) own;
      }

  sleep_on : (z w : ℕ) → Sleeps z → Step m x s g.fixed g.fences g.links (edge Global z w) → Sleeps w
  sleep_on z w a (static h) =
      record { start = a.start; static = a.static; there = a.there; is_start = a.is_start; asleep = a.asleep; one = thread_joined es a.start z w a.one (there_goes_on m x s g (edge Global z w) h).1 }
  sleep_on z w a (created c d k same) =
      let kc = block_of es c k.creating g.static k.creates in
      let kd = block_of es d k.starting g.static k.starts in
      start_sleeps c d z w k same (asleep_in_block z c a (source_block c d z w k.creating k.starting kc (leading c d z w k.creating k.starting kc kd same)))
  sleep_on z w a (tied Local c d k same) = absurd (local_not_global (sym (ap (λ (n : Edge). n.graph) same)))
  sleep_on z w a (tied Global c d k same) = absurd (no_sleeping_tie c d z w k same a)

  -- ---- each edge

  move : (p : Event) (c d z w : ℕ) → AtEvents x s (GlobalEdge m e) c d → IsActing m x s e g t d → edge Global z w ≡ global_edge (nodes_of es) c d → Place p z → Landed p w
  move p c d z w r h same k =
      let kc = block_of es c r.2.static g.static r.2.there in
      let kd = block_of es d r.3.static g.static r.3.there in
      move_by p c d z w r.0 r.1 r.2 r.3 kc (acts_as d r.1 r.3 h) r.4 k (leading c d z w r.2.static r.3.static kc kd same)

  land : (p : Event) (w : ℕ) → Landed p w → Place p w
  land p w l = record { node = w; event = l.event; here = l.here; trail = inr l.trail; way = inl refl }

  abbrev State : Event → ℕ → Type 0
  State p n = Sleeps n ⊎ Place p n

  creation_on : (p : Event) (c d z w : ℕ) (k : IsCreation es c d) → edge Global z w ≡ global_edge (nodes_of es) c d → Place p z → State p w
  creation_on p c d z w k same l =
      ⊎_elim
      (λ h. inr (land p w (move p c d z w (create_move m x s e g t c d (k, h)) (record { static = k.starting; of_thread = record { there = k.starts; acts = not_initial k.starting.kind kind.Start k.is_start refl } }) same l)))
      (λ h. inl (start_sleeps c d z w k same h))
      (cases_Bool (now c))

  place_on : (p : Event) (z w : ℕ) → Place p z → Step m x s g.fixed g.fences g.links (edge Global z w) → State p w
  place_on p z w k (static h) = inr (record { node = k.node; event = k.event; here = k.here; trail = k.trail; way = inr (reach_then Static k.node z w k.way (last h)) })
  place_on p z w k (created c d q same) = creation_on p c d z w q same k
  place_on p z w k (tied Local c d q same) = absurd (local_not_global (sym (ap (λ (n : Edge). n.graph) same)))
  place_on p z w k (tied Global c d q same) = inr (land p w (move p c d z w (global_move m x s e g t c d q) (tie_target m x s e g t Global c d q) same k))

  step_on : (p : Event) (z w : ℕ) → State p z → Edges z w → State p w
  step_on p z w k h = ⊎_elim (λ a. inl (sleep_on z w a (step_of m x s g (edge Global z w) h))) (λ l. place_on p z w l (step_of m x s g (edge Global z w) h)) k

  -- ---- around

  -- an edge that ties nodes
  record TieEdge (z w : ℕ) : Type 0 where
    pub source : ℕ
    pub target : ℕ
    pub tie : Tie m x s g.links Global source target
    pub same : edge Global z w ≡ global_edge (nodes_of es) source target

  -- an edge of a creation leads on
  creation_rises : (c d z w : ℕ) (k : IsCreation es c d) → edge Global z w ≡ global_edge (nodes_of es) c d → z < w
  creation_rises c d z w k same =
      let kc = block_of es c k.creating g.static k.creates in
      let kd = block_of es d k.starting g.static k.starts in
      let cr = g.creations c d k in
      let apart : ¬ (k.creating.block ≡ k.starting.block) = λ q. cr.apart (block_thread es c d g.static cr.before (record { first = k.creating; second = k.starting; is_first = k.creates; is_second = k.starts; same = q })) in
      let below : kc.last < d = ⊎_elim (λ l. l)
      (λ l. absurd (cr.apart (block_thread es c d g.static cr.before (block_front es c d kc.last g.static (block_turned es kc.last c (last_with c k.creating kc)) (omega (arith, cr.before)) l)))) (cases_lt kc.last d) in
      let first : kc.last < k.starting.block = before_block es kc.last d kc.closing k.starting g.static kc.last_there k.starts below (λ q. apart (sym kc.last_block ∙ q)) in
      let r = same ∙ edge_between es c d k.creating k.starting kc kd apart in
      let from : z ≡ kc.last = ap (λ (n : Edge). n.from) r in
      let to : w ≡ k.starting.block = ap (λ (n : Edge). n.to) r in
      omega (arith, from, to, first)

  rises_by : (z w : ℕ) → Step m x s g.fixed g.fences g.links (edge Global z w) → (z < w) ⊎ TieEdge z w
  rises_by z w (static h) = inl (there_goes_on m x s g (edge Global z w) h).0
  rises_by z w (created c d k same) = inl (creation_rises c d z w k same)
  rises_by z w (tied Local c d k same) = absurd (local_not_global (sym (ap (λ (n : Edge). n.graph) same)))
  rises_by z w (tied Global c d k same) = inr (record { source = c; target = d; tie = k; same = same })

  rises : (z w : ℕ) → Edges z w → (z < w) ⊎ TieEdge z w
  rises z w h = rises_by z w (step_of m x s g (edge Global z w) h)

  start_at : (z w : ℕ) → TieEdge z w → (a : Event) × Here w a
  start_at z w k =
      let r = global_move m x s e g t k.source k.target k.tie in
      let kc = block_of es k.source r.2.static g.static r.2.there in
      let kd = block_of es k.target r.3.static g.static r.3.there in
      landing k.source k.target z w r.2.static kc r.1 r.3 (acts_as k.target r.1 r.3 (tie_target m x s e g t Global k.source k.target k.tie)) (leading k.source k.target z w r.2.static r.3.static kc kd k.same)

  around : (z w : ℕ) (p : Event) → Here w p → TieEdge z w → State p z → Trail m e p p
  around z w p h k (inl a) = absurd (no_sleeping_tie k.source k.target z w k.tie k.same a)
  around z w p h k (inr l) =
      let r = move p k.source k.target z w (global_move m x s e g t k.source k.target k.tie) (tie_target m x s e g t Global k.source k.target k.tie) k.same l in
      subst (λ (z : Event). Trail m e p z) (same_event x s w r.event p r.here.is h.is) r.trail

  looped : Consistent m e → Loop Edges TieEdge → ⊥
  looped c l =
      let r = start_at l.from l.to l.turn in
      let start : Place r.0 l.to = record { node = l.to; event = r.0; here = r.1; trail = inl refl; way = inl refl } in
      let end = carry_reach Edges (State r.0) (step_on r.0) l.to l.from (inr start) l.back in
      closed m e r.0 c (around l.from l.to r.0 r.1 l.turn end)

  pub no_global_cycle : Consistent m e → (n : ℕ) → Path (EdgeIn x.problem (λ l. value s l ≡ true) Global) n n → ⊥
  no_global_cycle c n p = looped c (loop_of Edges TieEdge rises n p)
