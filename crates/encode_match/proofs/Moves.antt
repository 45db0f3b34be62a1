-- From nodes to events: what the graphs' edges are in an execution that matches.
use Rattle.std.proofs.Common.{◌≡◌, ℕ, zero, suc, [], ◌∷◌, ◌<◌, ⊎_elim, Bool, true, false, not, nat_eq, List, refl, ap, sym, ◌∙◌, subst, arith}
use Rattle.std.specs.Prelude.{Some, slice_get, slice_index_or}
use Rattle.std.proofs.lemmas.Bool.{cases_order, cond-false, cond-true, eq-eqb, and_from, not-true, not_from_false, both_ways}
use Rattle.std.proofs.lemmas.Option.{same_Some}
use Rattle.dg_base.proofs.Lists.{get_nothing}
use Rattle.axiom_model.specs.declared.MemoryModel.{MemoryModel}
use Rattle.axiom_model.specs.declared.MemoryModel.TheVariants.{Sc, Tso, Pso}
use Rattle.axiom_model.specs.declared.Action.{Action}
use Rattle.axiom_model.specs.declared.Action.TheVariants as action
use Rattle.axiom_model.specs.declared.Event.{Event}
use Rattle.axiom_model.specs.declared.Event.TheVariants.{Initial, At}
use Rattle.axiom_model.specs.Execution.{Execution, action_at, Before, SameThread, Rf, Co, Fr, SameBlock}
use Rattle.axiom_model.specs.Models as models
use Rattle.axiom_model.specs.Models.{GlobalRf, LocalEdge, GlobalEdge, Kept}
use Rattle.cnf_problem.specs.declared.problem.Graph.{Graph}
use Rattle.cnf_problem.specs.declared.problem.Graph.TheVariants.{Local, Global}
use Rattle.bit_gates.specs.Words.{number}
use Rattle.memory_models.specs.declared.StaticEvent.{StaticEvent}
use Rattle.memory_models.specs.declared.StaticKind.{StaticKind}
use Rattle.memory_models.specs.declared.StaticKind.TheVariants as kind
use Rattle.memory_models.specs.declared.EventBits.{EventBits}
use Rattle.memory_models.specs.Events.{IsAt, IsOfThread, OneThread, OneBlock}
use Rattle.memory_models.specs.Keeping.{IsKept, OnOneCell}
use Rattle.memory_models.proofs.Blocks.{one_event, thread_turned}
use Rattle.event_graph.specs.Laws.{happens, earlier}
use Rattle.order_vars.specs.Links.{is_initial, joining, IsKindOf}
use Rattle.order_vars.specs.Atoms.{event_at, same_thread, is_global_rf}
use Rattle.encode_match.specs.declared.Encoded.{Encoded}
use Rattle.encode_match.specs.Spelling.{IsEvent, event_by, thread_event, first_or_none, handles_in, ReadsFrom, IsBefore}
use Rattle.encode_match.specs.Matching.{GraphHolds, MatchesThreads, Matches, ActsAs, AtEvents, CreatesAt}
use Rattle.encode_match.proofs.Acts.{keeps_acts, access_cell, is_initial_false, not_initial, access_acts}
use Rattle.encode_match.proofs.Ties.{happens_is, Tie, reads, orders, after, waits, reading_of, ordering_of, local_not_global}

-- ---- events of nodes

abbrev place_number : Event → ℕ
place_number Initial = 0
place_number (At h i) = 1

pub no_event : (h i : ℕ) → Initial ≡ At h i → ⊥
no_event h i e = let q : 0 ≡ 1 = ap place_number e in omega (arith, q)

-- the event is one of a thread
pub record InThread (a : Event) : Type 0 where
  pub handle : ℕ
  pub index : ℕ
  pub is : a ≡ At handle index

-- a node has one event
pub same_event : (x : Encoded) (s : List Bool) (n : ℕ) (a b : Event) → IsEvent x s n a → IsEvent x s n b → a ≡ b
same_event x s n a b p q = sym p.same ∙ (ap (λ (t : StaticEvent). event_by x s n t) (one_event x.map.graph.events n p.static q.static p.there q.there) ∙ q.same)

pub event_in_thread : (x : Encoded) (s : List Bool) (n : ℕ) (a : Event) (p : IsEvent x s n a) → ¬ (p.static.kind ≡ kind.Initial) → InThread a
event_in_thread x s n a p h =
    let same : event_by x s n p.static ≡ thread_event x s n p.static.instance = cond-false (is_initial p.static.kind) Initial (thread_event x s n p.static.instance) (is_initial_false p.static.kind h) in
    record { handle = first_or_none (handles_in s p.static.instance x.map.graph.events x.map.graph.bits); index = earlier s p.static.instance n x.map.graph.events; is = sym p.same ∙ same }

pub node_in_thread : (x : Encoded) (s : List Bool) (n : ℕ) (a : Event) → IsEvent x s n a → (t : StaticEvent) → IsAt x.map.graph.events n t → ¬ (t.kind ≡ kind.Initial) → InThread a
node_in_thread x s n a p t h k =
    event_in_thread x s n a p (subst (λ (z : StaticEvent). ¬ (z.kind ≡ kind.Initial)) (one_event x.map.graph.events n t p.static h p.there) k)

-- an event in a thread is no initial write
pub thread_acts : (x : Encoded) (s : List Bool) (n : ℕ) (a : Event) (p : IsEvent x s n a) → InThread a → ¬ (p.static.kind ≡ kind.Initial)
thread_acts x s n a p i h =
    let same : event_by x s n p.static ≡ Initial = cond-true (is_initial p.static.kind) Initial (thread_event x s n p.static.instance) (ap is_initial h) in
    no_event i.handle i.index (sym same ∙ (p.same ∙ i.is))

pub event_is : (es : List StaticEvent) (n : ℕ) (f d : StaticEvent) → IsAt es n f → slice_index_or es n d ≡ f
event_is [] n f d h = absurd (get_nothing n f h)
event_is (z ∷ zs) zero f d h = same_Some z f h
event_is (z ∷ zs) (suc n) f d h = event_is zs n f d h

abbrev pub event_at_node : (x : Encoded) (s : List Bool) (n : ℕ) (f : StaticEvent) → IsAt x.map.graph.events n f → happens s x.map.graph.events n ≡ true → IsEvent x s n (event_by x s n f)
event_at_node x s n f h k = record { static = f; there = h; happens = sym (happens_is s x.map.graph.events n f h) ∙ k; same = refl }

-- the event of an initial write
pub initial_is : (x : Encoded) (s : List Bool) (n : ℕ) (a : Event) (p : IsEvent x s n a) → p.static.kind ≡ kind.Initial → a ≡ Initial
initial_is x s n a p h = sym p.same ∙ cond-true (is_initial p.static.kind) Initial (thread_event x s n p.static.instance) (ap is_initial h)

-- what a node of this kind does in an execution
pub record Does (x : Encoded) (s : List Bool) (e : Execution) (n : ℕ) (a : Event) (t : StaticEvent) (k : StaticKind) : Type 0 where
  pub act : Action
  pub bits : EventBits
  pub has_bits : slice_get x.map.graph.bits n ≡ Some bits
  pub acts : ActsAs s t bits k act
  pub there : action_at e a ≡ Some act

pub does : (x : Encoded) (s : List Bool) (e : Execution) → MatchesThreads x s e → (n : ℕ) (a : Event) (k : StaticKind) (p : IsEvent x s n a) → p.static.kind ≡ k → ¬ (k ≡ kind.Initial) → Does x s e n a p.static k
does x s e t n a k p same acts =
    let r = t.events n p.static p.there (λ h. acts (sym same ∙ h)) p.happens in
    let event : r.event ≡ a = same_event x s n r.event a r.makes.is_event p in
    let static : r.makes.is_event.static ≡ p.static = one_event x.map.graph.events n r.makes.is_event.static p.static r.makes.is_event.there p.there in
    let at : ActsAs s p.static r.makes.bits p.static.kind r.act = subst (λ (z : StaticEvent). ActsAs s z r.makes.bits z.kind r.act) static r.makes.acts in
    record {
      act = r.act;
      bits = r.makes.bits;
      has_bits = r.makes.has_bits;
      acts = subst (λ (z : StaticKind). ActsAs s p.static r.makes.bits z r.act) same at;
      there = subst (λ (z : Event). action_at e z ≡ Some r.act) event r.there;
    }

-- ---- in an execution that matches

module _ (m : MemoryModel) (x : Encoded) (s : List Bool) (e : Execution) (g : GraphHolds m x s) (t : Matches x s g.links e) where
  abbrev es : List StaticEvent
  es = x.map.graph.events

  -- what an event's node does
  acting : (n : ℕ) (a : Event) (p : IsEvent x s n a) → ¬ (p.static.kind ≡ kind.Initial) → Does x s e n a p.static p.static.kind
  acting n a p h = does x s e t.threads n a p.static.kind p refl h

  -- nodes of one thread, or block, are events of one
  pub same_block_at : (n k : ℕ) (a b : Event) → IsEvent x s n a → IsEvent x s k b → InThread a → InThread b → OneBlock es n k → SameBlock e a b
  same_block_at n k a b p q i j o =
      let both = (t.threads.blocks n k i.handle i.index j.handle j.index (subst (λ (z : Event). IsEvent x s n z) i.is p) (subst (λ (z : Event). IsEvent x s k z) j.is q)).1 o in
      subst (λ (z : Event). SameBlock e z b) (sym i.is) (subst (λ (z : Event). SameBlock e (At i.handle i.index) z) (sym j.is) both)

  pub one_block_at : (n k : ℕ) (a b : Event) → IsEvent x s n a → IsEvent x s k b → InThread a → InThread b → SameBlock e a b → OneBlock es n k
  one_block_at n k a b p q i j o =
      (t.threads.blocks n k i.handle i.index j.handle j.index (subst (λ (z : Event). IsEvent x s n z) i.is p) (subst (λ (z : Event). IsEvent x s k z) j.is q)).0
      (subst (λ (z : Event). SameBlock e z (At j.handle j.index)) i.is (subst (λ (z : Event). SameBlock e a z) j.is o))

  of_thread : (n : ℕ) (a : Event) (p : IsEvent x s n a) → ¬ (p.static.kind ≡ kind.Initial) → IsOfThread es n p.static
  of_thread n a p h = record { there = p.there; acts = h }

  -- ---- program order

  -- what a node of a thread does
  record ActAt (n : ℕ) (f : StaticEvent) : Type 0 where
    pub act : Action
    pub bits : EventBits
    pub acts : ActsAs s f bits f.kind act
    pub there : action_at e (event_by x s n f) ≡ Some act

  act_at : (n : ℕ) (f : StaticEvent) → IsOfThread es n f → happens s es n ≡ true → ActAt n f
  act_at n f p u = let a = acting n (event_by x s n f) (event_at_node x s n f p.there u) p.acts in record { act = a.act; bits = a.bits; acts = a.acts; there = a.there }

  before_at : (n k : ℕ) (f h : StaticEvent) → IsOfThread es n f → IsOfThread es k h → f.instance ≡ h.instance → n < k → happens s es n ≡ true → happens s es k ≡ true → Before (event_by x s n f) (event_by x s k h)
  before_at n k f h p q same l u v =
      (t.threads.order n k (event_by x s n f) (event_by x s k h) (event_at_node x s n f p.there u) (event_at_node x s k h q.there v)).1 (record { first = f; second = h; is_first = p; is_second = q; same = same }, l)

  pub local_po_at : (n k : ℕ) → OnOneCell es n k → happens s es n ≡ true → happens s es k ≡ true → AtEvents x s (LocalEdge e) n k
  local_po_at n k o u v =
      let p : IsOfThread es n o.first = record { there = o.is_first; acts = access_acts o.first.kind o.accesses.0 } in
      let q : IsOfThread es k o.second = record { there = o.is_second; acts = access_acts o.second.kind o.accesses.1 } in
      let a = act_at n o.first p u in
      let b = act_at k o.second q v in (
        event_by x s n o.first,
        event_by x s k o.second,
        event_at_node x s n o.first o.is_first u,
        event_at_node x s k o.second o.is_second v,
        models.LocalEdge.po (record {
          before = before_at n k o.first o.second p q o.same o.before u v;
          first = a.act;
          second = b.act;
          is_first = a.there;
          is_second = b.there;
          holds = (o.first.cell, access_cell s o.first a.bits o.first.kind a.act a.acts o.accesses.0, access_cell s o.second b.bits o.second.kind b.act b.acts o.accesses.1 ∙ ap Some (sym o.same_cell));
        }),
      )

  pub kept_at : (n k : ℕ) → IsKept m es n k → happens s es n ≡ true → happens s es k ≡ true → AtEvents x s (GlobalEdge m e) n k
  kept_at n k o u v =
      let a = act_at n o.first o.is_first u in
      let b = act_at k o.second o.is_second v in
      let before = before_at n k o.first o.second o.is_first o.is_second o.same o.before u v in
      let p = event_at_node x s n o.first o.is_first.there u in
      let q = event_at_node x s k o.second o.is_second.there v in (
        event_by x s n o.first,
        event_by x s k o.second,
        p,
        q,
        models.GlobalEdge.kept (⊎_elim
            (λ d. models.Kept.in_thread (record {
              before = before;
              first = a.act;
              second = b.act;
              is_first = a.there;
              is_second = b.there;
              holds = keeps_acts m s o.first o.second a.bits b.bits o.first.kind o.second.kind a.act b.act a.acts b.acts ∙ d;
            }))
            (λ d. models.Kept.in_section (record { before = before; first = a.act; second = b.act; is_first = a.there; is_second = b.there; holds = tt })
            (same_block_at n k (event_by x s n o.first) (event_by x s k o.second) p q
            (event_in_thread x s n (event_by x s n o.first) p o.is_first.acts) (event_in_thread x s k (event_by x s k o.second) q o.is_second.acts)
            (record { first = o.first; second = o.second; is_first = o.is_first.there; is_second = o.is_second.there; same = d })))
            o.kept),
      )

  -- ---- threads

  one_thread_at : (w r k j h i : ℕ) → IsEvent x s w (At k j) → IsEvent x s r (At h i) → k ≡ h → OneThread es w r
  one_thread_at w r k j h i p q same =
      ⊎_elim
      (λ z. let one : w ≡ r = t.threads.once w r h i (subst (λ (y : Event). IsEvent x s w y) (ap (λ (n : ℕ). At n j) same ∙ ap (λ (n : ℕ). At h n) z) p) q in
      let own : IsOfThread es w p.static = record { there = p.there; acts = thread_acts x s w (At k j) p (record { handle = k; index = j; is = refl }) } in
      subst (λ (n : ℕ). OneThread es w n) one (record { first = p.static; second = p.static; is_first = own; is_second = own; same = refl }))
      (λ y. ⊎_elim
      (λ l. ((t.threads.order w r (At k j) (At h i) p q).0 (same, l)).0)
      (λ l. thread_turned es r w ((t.threads.order r w (At h i) (At k j) q p).0 (sym same, l)).0)
      y)
      (cases_order j i)

  same_thread_at : (w r : ℕ) → OneThread es w r → same_thread (event_at es w) (event_at es r) ≡ true
  same_thread_at w r o =
      let p : event_at es w ≡ o.first = event_is es w o.first (record { instance = 0; kind = kind.Full; cell = 0; guard = record { 0 = 3 }; block = w }) o.is_first.there in
      let q : event_at es r ≡ o.second = event_is es r o.second (record { instance = 0; kind = kind.Full; cell = 0; guard = record { 0 = 3 }; block = r }) o.is_second.there in
      ap (λ (z : StaticEvent). same_thread z (event_at es r)) p
      ∙ (ap (λ (z : StaticEvent). same_thread o.first z) q
      ∙ and_from (not (is_initial o.first.kind)) (nat_eq o.first.instance o.second.instance) (not_from_false (is_initial o.first.kind) (is_initial_false o.first.kind o.is_first.acts)) (eq-eqb o.first.instance o.second.instance o.same))

  apart_at : (w r : ℕ) (a b : Event) → IsEvent x s w a → IsEvent x s r b → not (same_thread (event_at es w) (event_at es r)) ≡ true → ¬ SameThread a b
  apart_at w r Initial Initial p q n h = h
  apart_at w r (At k j) Initial p q n h = h
  apart_at w r Initial (At l i) p q n h = h
  apart_at w r (At k j) (At l i) p q n h =
      both_ways (same_thread (event_at es w) (event_at es r)) (not-true (same_thread (event_at es w) (event_at es r)) n) (same_thread_at w r (one_thread_at w r k j l i p q h))

  seen_at : (k : MemoryModel) (w r : ℕ) (a b : Event) → IsEvent x s w a → IsEvent x s r b → is_global_rf k es w r ≡ true → Rf e a b → GlobalRf k e a b
  seen_at Sc w r a b p q n f = f
  seen_at Tso w r a b p q n f = (f, apart_at w r a b p q n)
  seen_at Pso w r a b p q n f = (f, apart_at w r a b p q n)

  -- ---- ties

  -- a read comes before what is behind its source
  fr_from : (w r v c : ℕ) (sa ra wa va : Event) → IsEvent x s w sa → (p : IsEvent x s r ra) → Rf e sa ra → IsEvent x s w wa → Co e c wa va → IsKindOf es kind.Read c r → Fr e ra va
  fr_from w r v c sa ra wa va is_w p f is_w2 o reader =
      let static : reader.event ≡ p.static = one_event es r reader.event p.static reader.there p.there in
      let is_read : p.static.kind ≡ kind.Read = sym (ap (λ (z : StaticEvent). z.kind) static) ∙ reader.same_kind in
      let cell : p.static.cell ≡ c = sym (ap (λ (z : StaticEvent). z.cell) static) ∙ reader.same_cell in
      let a = acting r ra p (not_initial p.static.kind kind.Read is_read refl) in
      let act : a.act ≡ action.Read p.static.cell (number s a.bits.bits) = subst (λ (k : StaticKind). ActsAs s p.static a.bits k a.act) is_read a.acts in
      record {
        cell = c;
        value = number s a.bits.bits;
        source = sa;
        reads = a.there ∙ ap Some (act ∙ ap (λ (z : ℕ). action.Read z (number s a.bits.bits)) cell);
        from = f;
        later = subst (λ (z : Event). Co e c z va) (same_event x s w wa sa is_w2 is_w) o;
      }

  pub fr_at : (w r v : ℕ) → ReadsFrom x s w r → IsBefore x s w v → AtEvents x s (Fr e) r v
  fr_at w r v f h =
      let p = reading_of m x s g w r f in
      let q = ordering_of m x s g w v h in
      let a = t.rf_back w r f in
      let b = t.co_back q.cell w v (q.first, h) in
      let cells : p.cell ≡ q.cell = sym p.source.same_cell ∙ (ap (λ (z : StaticEvent). z.cell) (one_event es w p.source.event q.first.event p.source.there q.first.there) ∙ q.first.same_cell) in
      (a.1, b.1, a.3, b.3, fr_from w r v q.cell a.0 a.1 b.0 b.1 a.2 a.3 a.4 b.2 b.4 (subst (λ (z : ℕ). IsKindOf es kind.Read z r) cells p.reader))

  pub co_at : (w v : ℕ) → IsBefore x s w v → (c : ℕ) × AtEvents x s (Co e c) w v
  co_at w v h = let q = ordering_of m x s g w v h in (q.cell, t.co_back q.cell w v (q.first, h))

  pub local_move : (a b : ℕ) → Tie m x s g.links Local a b → AtEvents x s (LocalEdge e) a b
  local_move a b (reads f n) = let p = t.rf_back a b f in (p.0, p.1, p.2, p.3, models.LocalEdge.rf p.4)
  local_move a b (orders h) = let r = co_at a b h in (r.1.0, r.1.1, r.1.2, r.1.3, models.LocalEdge.co r.0 r.1.4)
  local_move a b (after w f h) = let p = fr_at w a b f h in (p.0, p.1, p.2, p.3, models.LocalEdge.fr p.4)
  local_move a b (waits n w) = absurd (local_not_global n)

  pub global_move : (a b : ℕ) → Tie m x s g.links Global a b → AtEvents x s (GlobalEdge m e) a b
  global_move a b (reads f n) = let p = t.rf_back a b f in (p.0, p.1, p.2, p.3, models.GlobalEdge.rf (seen_at m a b p.0 p.1 p.2 p.3 n p.4))
  global_move a b (orders h) = let r = co_at a b h in (r.1.0, r.1.1, r.1.2, r.1.3, models.GlobalEdge.co r.0 r.1.4)
  global_move a b (after w f h) = let p = fr_at w a b f h in (p.0, p.1, p.2, p.3, models.GlobalEdge.fr p.4)
  global_move a b (waits n w) = let p = t.joins_back a b w in (p.0, p.1, p.2, p.3, models.GlobalEdge.kept (models.Kept.joins p.4.is_end p.4.of_handle p.4.is_join))

  pub create_move : (a b : ℕ) → CreatesAt x s a b → AtEvents x s (GlobalEdge m e) a b
  create_move a b c = let p = t.threads.creates_back a b c in (p.0, p.1, p.2, p.3, models.GlobalEdge.kept (models.Kept.creates p.4.is_create p.4.is_start p.4.of_handle))

  -- no tie leads to an initial write
  pub record IsActing (n : ℕ) : Type 0 where
    pub static : StaticEvent
    pub of_thread : IsOfThread es n static

  kind_acts : (k : StaticKind) (c n : ℕ) → is_initial k ≡ false → IsKindOf es k c n → IsActing n
  kind_acts k c n f h = record { static = h.event; of_thread = record { there = h.there; acts = not_initial h.event.kind k h.same_kind f } }

  pub tie_target : (d : Graph) (a b : ℕ) → Tie m x s g.links d a b → IsActing b
  tie_target d a b (reads f n) = let p = reading_of m x s g a b f in kind_acts kind.Read p.cell b refl p.reader
  tie_target d a b (orders h) = let q = ordering_of m x s g a b h in kind_acts kind.Write q.cell b refl q.second
  tie_target d a b (after w f h) = let q = ordering_of m x s g w b h in kind_acts kind.Write q.cell b refl q.second
  tie_target d a b (waits n w) =
      let k = (g.tied (joining a b w.0) w.1).0.1 in
      record { static = k.event; of_thread = record { there = k.there; acts = not_initial k.event.kind kind.Join k.same_kind refl } }
