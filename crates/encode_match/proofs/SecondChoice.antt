-- The choice of sources, orders and waits that a well made execution makes, and an assignment that makes it.
use Rattle.std.proofs.Common.{◌≡◌, ℕ, zero, suc, ◌<◌, ◌⊎◌, inl, inr, ⊎_elim, Bool, true, false, nat_eq, ◌&&◌, ◌||◌, List, [], ◌∷◌, length, refl, ap, sym, ◌∙◌, subst, arith}
use Rattle.std.specs.Prelude.{Some, slice_get, ◌↔◌}
use Rattle.std.proofs.lemmas.Bool.{and_from, and_parts, or_cases, or_left, or_right, eq-eqb, eqb-true, false≢true}
use Rattle.std.proofs.lemmas.Option.{same_Some}
use Rattle.dg_base.specs.declared.Lit.{Lit}
use Rattle.dg_base.proofs.Lists.{get_nothing}
use Rattle.axiom_model.specs.declared.Event.{Event}
use Rattle.axiom_model.specs.declared.Event.TheVariants.{Initial, At}
use Rattle.axiom_model.specs.declared.MemoryModel.{MemoryModel}
use Rattle.axiom_model.specs.declared.RfPair.{RfPair}
use Rattle.axiom_model.specs.declared.Candidate.{Candidate}
use Rattle.axiom_model.specs.Execution.{Precedes, Rf, Co}
use Rattle.axiom_model.specs.Failing.{Run, execution_of}
use Rattle.axiom_model.proofs.Fitting.{same_event as is_same}
use Rattle.c_check.specs.declared.checked.Checked.{Checked}
use Rattle.run_laws.specs.Frames.{RunsAreFramed}
use Rattle.cnf_problem.specs.Literals.{value}
use Rattle.bit_gates.specs.Words.{number}
use Rattle.flat_prog.specs.declared.Flat.{Flat}
use Rattle.memory_models.specs.declared.StaticEvent.{StaticEvent}
use Rattle.memory_models.specs.declared.StaticKind.TheVariants as kind
use Rattle.memory_models.specs.Events.{IsAt}
use Rattle.event_graph.specs.Laws.{happens}
use Rattle.order_vars.specs.Links.{is_write, MayRead, AreRivals, MayJoin}
use Rattle.order_vars.specs.Atoms.{event_at}
use Rattle.order_vars.specs.Holding.{Happens, BothHappen, SameBits, HasTrueBit, word_at}
use Rattle.order_vars.specs.Orders.{Choice}
use Rattle.encode_order.specs.Choices.{IsFitting, Makes, ChoicesCanBeMade}
use Rattle.encode_match.specs.declared.Encoded.{Encoded}
use Rattle.encode_match.specs.Spelling.{IsEvent, event_by}
use Rattle.encode_match.specs.Parts.{words_of, IsChain}
use Rattle.encode_match.proofs.Moves.{event_is}
use Rattle.encode_match.proofs.Ties.{happens_is}
use Rattle.encode_match.proofs.FirstCandidate.{orders_made}
use Rattle.encode_match.proofs.SecondNodes.{Played, read_at, source_bits, writing, either_way, join_bit, join_end, bits_same}

-- ---- tests

same_from : (a b : Event) → is_same a b ≡ true → a ≡ b
same_from Initial Initial t = refl
same_from Initial (At k j) t = absurd (false≢true t)
same_from (At h i) Initial t = absurd (false≢true t)
same_from (At h i) (At k j) t = let p = and_parts (nat_eq h k) (nat_eq i j) t in cc (eqb-true h k p.0, eqb-true i j p.1)

same_to : (a b : Event) → a ≡ b → is_same a b ≡ true
same_to a b h = subst (λ (z : Event). is_same a z ≡ true) h (itself a)
  where
    itself : (z : Event) → is_same z z ≡ true
    itself Initial = refl
    itself (At h i) = and_from (nat_eq h h) (nat_eq i i) (eq-eqb h h refl) (eq-eqb i i refl)

-- whether the pair of a read and its source is listed
abbrev pub has_pair : List RfPair → Event → Event → Bool
has_pair [] a b = false
has_pair (p ∷ ps) a b = (is_same p.source a && is_same p.reader b) || has_pair ps a b

pair_of : (p : RfPair) (a b : Event) → p.source ≡ a → p.reader ≡ b → p ≡ record { reader = b; source = a }
pair_of p a b q r = ap (λ (z : Event). record { reader = p.reader; source = z }) q ∙ ap (λ (z : Event). record { reader = z; source = a }) r

pair_from : (ps : List RfPair) (a b : Event) → has_pair ps a b ≡ true → (k : ℕ) × (slice_get ps k ≡ Some (record { reader = b; source = a }))
pair_from [] a b t = absurd (false≢true t)
pair_from (p ∷ ps) a b t =
    ⊎_elim
    (λ h. let q = and_parts (is_same p.source a) (is_same p.reader b) h in (zero, ap Some (pair_of p a b (same_from p.source a q.0) (same_from p.reader b q.1))))
    (λ h. let r = pair_from ps a b h in (suc r.0, r.1))
    (or_cases (is_same p.source a && is_same p.reader b) (has_pair ps a b) t)

pair_to : (ps : List RfPair) (a b : Event) (k : ℕ) → slice_get ps k ≡ Some (record { reader = b; source = a }) → has_pair ps a b ≡ true
pair_to [] a b k h = absurd (get_nothing k (record { reader = b; source = a }) h)
pair_to (p ∷ ps) a b zero h =
    let one = same_Some p (record { reader = b; source = a }) h in
    or_left (is_same p.source a && is_same p.reader b) (has_pair ps a b)
    (and_from (is_same p.source a) (is_same p.reader b) (same_to p.source a (ap (λ (z : RfPair). z.source) one)) (same_to p.reader b (ap (λ (z : RfPair). z.reader) one)))
pair_to (p ∷ ps) a b (suc k) h = or_right (is_same p.source a && is_same p.reader b) (has_pair ps a b) (pair_to ps a b k h)

-- whether the event is listed
abbrev pub has_event : List Event → Event → Bool
has_event [] b = false
has_event (z ∷ l) b = is_same z b || has_event l b

event_from : (l : List Event) (b : Event) → has_event l b ≡ true → (j : ℕ) × (slice_get l j ≡ Some b)
event_from [] b t = absurd (false≢true t)
event_from (z ∷ l) b t = ⊎_elim (λ h. (zero, ap Some (same_from z b h))) (λ h. let r = event_from l b h in (suc r.0, r.1)) (or_cases (is_same z b) (has_event l b) t)

event_to : (l : List Event) (b : Event) (j : ℕ) → slice_get l j ≡ Some b → has_event l b ≡ true
event_to [] b j h = absurd (get_nothing j b h)
event_to (z ∷ l) b zero h = or_left (is_same z b) (has_event l b) (same_to z b (same_Some z b h))
event_to (z ∷ l) b (suc j) h = or_right (is_same z b) (has_event l b) (event_to l b j h)

-- whether the one stands before the other
abbrev pub precedes : List Event → Event → Event → Bool
precedes [] a b = false
precedes (z ∷ l) a b = (is_same z a && has_event l b) || precedes l a b

precedes_from : (l : List Event) (a b : Event) → precedes l a b ≡ true → Precedes l a b
precedes_from [] a b t = absurd (false≢true t)
precedes_from (z ∷ l) a b t =
    ⊎_elim
    (λ h. let q = and_parts (is_same z a) (has_event l b) h in let r = event_from l b q.1 in (zero, suc r.0, omega arith, ap Some (same_from z a q.0), r.1))
    (λ h. let r = precedes_from l a b h in let low = r.2 in (suc r.0, suc r.1, omega (arith, low), r.3, r.4))
    (or_cases (is_same z a && has_event l b) (precedes l a b) t)

precedes_to : (l : List Event) (a b : Event) (i j : ℕ) → i < j → slice_get l i ≡ Some a → slice_get l j ≡ Some b → precedes l a b ≡ true
precedes_to [] a b i j low h g = absurd (get_nothing i a h)
precedes_to (z ∷ l) a b zero zero low h g = absurd (omega (arith, low))
precedes_to (z ∷ l) a b zero (suc j) low h g =
    or_left (is_same z a && has_event l b) (precedes l a b) (and_from (is_same z a) (has_event l b) (same_to z a (same_Some z a h)) (event_to l b j g))
precedes_to (z ∷ l) a b (suc i) zero low h g = absurd (omega (arith, low))
precedes_to (z ∷ l) a b (suc i) (suc j) low h g = or_right (is_same z a && has_event l b) (precedes l a b) (precedes_to l a b i j (omega (arith, low)) h g)

-- whether it does so in the list at this place
abbrev pub precedes_in : List (List Event) → ℕ → Event → Event → Bool
precedes_in [] k a b = false
precedes_in (l ∷ ls) zero a b = precedes l a b
precedes_in (l ∷ ls) (suc k) a b = precedes_in ls k a b

precedes_in_from : (ls : List (List Event)) (k : ℕ) (a b : Event) → precedes_in ls k a b ≡ true → (l : List Event) × (slice_get ls k ≡ Some l) × Precedes l a b
precedes_in_from [] k a b t = absurd (false≢true t)
precedes_in_from (l ∷ ls) zero a b t = (l, refl, precedes_from l a b t)
precedes_in_from (l ∷ ls) (suc k) a b t = precedes_in_from ls k a b t

precedes_in_to : (ls : List (List Event)) (k : ℕ) (l : List Event) (a b : Event) → slice_get ls k ≡ Some l → Precedes l a b → precedes_in ls k a b ≡ true
precedes_in_to [] k l a b h p = absurd (get_nothing k l h)
precedes_in_to (m ∷ ls) zero l a b h p = let q = subst (λ (z : List Event). Precedes z a b) (sym (same_Some m l h)) p in precedes_to m a b q.0 q.1 q.2 q.3 q.4
precedes_in_to (m ∷ ls) (suc k) l a b h p = precedes_in_to ls k l a b h p

-- ---- the choice

module _ {p : Checked} {m : MemoryModel} {flat : Flat} {x : Encoded} {chain : IsChain p m flat x} {c : Candidate} {rs : List Run} {s : List Bool} (k : Played p m flat x chain c rs s) where
  abbrev es : List StaticEvent
  es = x.map.graph.events

  abbrev words : List (List Lit)
  words = words_of x.map.graph.bits

  -- the event of a node
  abbrev pub event_of : ℕ → Event
  event_of n = event_by x s n (event_at x.map.graph.events n)

  -- a node's source is that of its read; writes come in the order of their cell; a join waits for the end with its handle
  abbrev pub choice : Choice
  choice = record {
    source = λ w r. happens s x.map.graph.events w && (happens s x.map.graph.events r && has_pair c.rf (event_of w) (event_of r));
    before = λ w v. happens s x.map.graph.events w && (happens s x.map.graph.events v && precedes_in c.co (event_at x.map.graph.events w).cell (event_of w) (event_of v));
    waits = λ n j. happens s x.map.graph.events n
        && (happens s x.map.graph.events j && nat_eq (number s (word_at (words_of x.map.graph.bits) n)) (number s (word_at (words_of x.map.graph.bits) j)));
  }

  pub static_is : (n : ℕ) (f : StaticEvent) → IsAt x.map.graph.events n f → event_at x.map.graph.events n ≡ f
  static_is n f h = event_is es n f (record { instance = 0; kind = kind.Full; cell = 0; guard = record { 0 = 3 }; block = n }) h

  is_event : (n : ℕ) (a : Event) → IsEvent x s n a → event_of n ≡ a
  is_event n a q = ap (λ (f : StaticEvent). event_by x s n f) (static_is n q.static q.there) ∙ q.same

  happens_there : (n : ℕ) (a : Event) → IsEvent x s n a → happens s x.map.graph.events n ≡ true
  happens_there n a q = happens_is s es n q.static q.there ∙ q.happens

  -- a node that happens has its event
  abbrev pub event_there : (n : ℕ) (f : StaticEvent) → IsAt x.map.graph.events n f → happens s x.map.graph.events n ≡ true → IsEvent x s n (event_of n)
  event_there n f h t = record { static = f; there = h; happens = sym (happens_is s es n f h) ∙ t; same = ap (λ (g : StaticEvent). event_by x s n g) (sym (static_is n f h)) }

  happens_at : (n : ℕ) (f : StaticEvent) → IsAt x.map.graph.events n f → happens s x.map.graph.events n ≡ true → Happens s x.map.graph.events n
  happens_at n f h t = (f, h, sym (happens_is s es n f h) ∙ t)

  event_happens : (n : ℕ) → Happens s x.map.graph.events n → IsEvent x s n (event_of n)
  event_happens n h = event_there n h.0 h.1 (happens_is s es n h.0 h.1 ∙ h.2)

  -- ---- sources

  pub source_chosen : (w r : ℕ) (a b : Event) → IsEvent x s w a → IsEvent x s r b → Rf (execution_of c rs) a b → choice.source w r ≡ true
  source_chosen w r a b q z f =
      and_from (happens s es w) (happens s es r && has_pair c.rf (event_of w) (event_of r)) (happens_there w a q)
      (and_from (happens s es r) (has_pair c.rf (event_of w) (event_of r)) (happens_there r b z)
      (pair_to c.rf (event_of w) (event_of r) f.0 (f.1 ∙ ap (λ (ev : Event). Some (record { reader = b; source = ev })) (sym (is_event w a q)) ∙ ap (λ (ev : Event). Some (record { reader = ev; source = event_of w })) (sym (is_event r b z)))))

  -- what a chosen pair of nodes says
  pub record Chosen (R : Event → Event → Type 0) (a b : ℕ) : Type 0 where
    pub first : happens s x.map.graph.events a ≡ true
    pub second : happens s x.map.graph.events b ≡ true
    pub related : R (event_of a) (event_of b)

  pub source_said : (w r : ℕ) → choice.source w r ≡ true → Chosen (Rf (execution_of c rs)) w r
  source_said w r t =
      let u = and_parts (happens s es w) (happens s es r && has_pair c.rf (event_of w) (event_of r)) t in
      let v = and_parts (happens s es r) (has_pair c.rf (event_of w) (event_of r)) u.1 in
      record { first = u.0; second = v.0; related = pair_from c.rf (event_of w) (event_of r) v.1 }

  -- ---- orders

  pub before_chosen : (w v : ℕ) (a b : Event) (q : IsEvent x s w a) → IsEvent x s v b → Co (execution_of c rs) q.static.cell a b → choice.before w v ≡ true
  before_chosen w v a b q z f =
      let cell = (event_at es w).cell in
      let at : q.static.cell ≡ cell = ap (λ (g : StaticEvent). g.cell) (sym (static_is w q.static q.there)) in
      let there : Precedes f.0 (event_of w) (event_of v) = subst (λ (ev : Event). Precedes f.0 ev (event_of v)) (sym (is_event w a q)) (subst (λ (ev : Event). Precedes f.0 a ev) (sym (is_event v b z)) f.2) in
      and_from (happens s es w) (happens s es v && precedes_in c.co cell (event_of w) (event_of v)) (happens_there w a q)
      (and_from (happens s es v) (precedes_in c.co cell (event_of w) (event_of v)) (happens_there v b z)
      (precedes_in_to c.co cell f.0 (event_of w) (event_of v) (ap (λ (n : ℕ). slice_get c.co n) (sym at) ∙ f.1) there))

  pub before_said : (w v : ℕ) (f : StaticEvent) → IsAt x.map.graph.events w f → choice.before w v ≡ true → Chosen (Co (execution_of c rs) f.cell) w v
  before_said w v f at t =
      let cell = (event_at es w).cell in
      let u = and_parts (happens s es w) (happens s es v && precedes_in c.co cell (event_of w) (event_of v)) t in
      let z = and_parts (happens s es v) (precedes_in c.co cell (event_of w) (event_of v)) u.1 in
      record {
        first = u.0;
        second = z.0;
        related = subst (λ (g : StaticEvent). Co (execution_of c rs) g.cell (event_of w) (event_of v)) (static_is w f at) (precedes_in_from c.co cell (event_of w) (event_of v) z.1);
      }

  -- ---- it fits

  sources_fit : (w r : ℕ) → MayRead x.map.graph.events w r → choice.source w r ≡ true → BothHappen s x.map.graph.events w r × SameBits s (words_of x.map.graph.bits) w r
  sources_fit w r may t =
      let d = source_said w r t in
      let a = may.1 in
      let b = may.2 in (
        (happens_at w a.event a.there d.first, happens_at r b.event b.there d.second),
        source_bits k w r (event_of w) (event_of r) (event_there w a.event a.there d.first) (event_there r b.event b.there d.second) a.writes b.same_kind (a.same_cell ∙ sym b.same_cell) d.related,
      )

  some_source : (r : ℕ) (f : StaticEvent) → IsAt x.map.graph.events r f → f.kind ≡ kind.Read → value s f.guard ≡ true → (w : ℕ) × MayRead x.map.graph.events w r × (choice.source w r ≡ true)
  some_source r f at reads h =
      let b = event_by x s r f in
      let z : IsEvent x s r b = record { static = f; there = at; happens = h; same = refl } in
      let o = read_at k r b z reads in
      let w = writing k o.source f.cell (number s (word_at words r)) o.writes in
      let q = w.is_event in (
        w.node,
        (
          f.cell,
          record { event = q.static; there = q.there; writes = w.writes; same_cell = w.same_cell },
          record { event = f; there = at; same_kind = reads; same_cell = refl },
        ),
        source_chosen w.node r o.source b q z (o.place, o.pair),
      )

  either_chosen : (w v : ℕ) → AreRivals x.map.graph.events w v → BothHappen s x.map.graph.events w v → (choice.before w v ≡ true) ⊎ (choice.before v w ≡ true)
  either_chosen w v rivals both =
      let f = rivals.1 in
      let g = rivals.2 in
      let low = rivals.3 in
      let q : IsEvent x s w (event_of w) = event_there w f.event f.there (happens_there w (event_of w) (event_happens w both.0)) in
      let z : IsEvent x s v (event_of v) = event_there v g.event g.there (happens_there v (event_of v) (event_happens v both.1)) in
      let same : g.event.cell ≡ f.event.cell = g.same_cell ∙ sym f.same_cell in
      ⊎_elim
      (λ h. inl (before_chosen w v (event_of w) (event_of v) q z h))
      (λ h. inr (before_chosen v w (event_of v) (event_of w) z q (subst (λ (n : ℕ). Co (execution_of c rs) n (event_of v) (event_of w)) (sym same) h)))
      (either_way k w v (event_of w) (event_of v) q z (ap is_write f.same_kind) (ap is_write g.same_kind) same (λ e. omega (arith, e, low)))

  orders_fit : (w v : ℕ) → AreRivals x.map.graph.events w v → ((choice.before w v ≡ true) ⊎ (choice.before v w ≡ true)) ↔ BothHappen s x.map.graph.events w v
  orders_fit w v rivals =
      let f = rivals.1 in
      let g = rivals.2 in (
        (λ h. ⊎_elim
            (λ t. let d = before_said w v f.event f.there t in (happens_at w f.event f.there d.first, happens_at v g.event g.there d.second))
            (λ t. let d = before_said v w g.event g.there t in (happens_at w f.event f.there d.second, happens_at v g.event g.there d.first))
            h),
        either_chosen w v rivals,
      )

  ends_fit : (n j : ℕ) → MayJoin x.map.graph.events n j → choice.waits n j ≡ true → BothHappen s x.map.graph.events n j × SameBits s (words_of x.map.graph.bits) n j × HasTrueBit s (words_of x.map.graph.bits) j
  ends_fit n j may t =
      let same_numbers = nat_eq (number s (word_at words n)) (number s (word_at words j)) in
      let u = and_parts (happens s es n) (happens s es j && same_numbers) t in
      let v = and_parts (happens s es j) same_numbers u.1 in
      let a = may.0 in
      let b = may.1 in (
        (happens_at n a.event a.there u.0, happens_at j b.event b.there v.0),
        bits_same k n j a.event b.event a.there b.there (eqb-true (number s (word_at words n)) (number s (word_at words j)) v.1),
        join_bit k j (event_of j) (event_there j b.event b.there v.0) b.same_kind,
      )

  some_end : RunsAreFramed → (j : ℕ) (f : StaticEvent) → IsAt x.map.graph.events j f → f.kind ≡ kind.Join → value s f.guard ≡ true → (n : ℕ) × MayJoin x.map.graph.events n j × (choice.waits n j ≡ true)
  some_end framed j f at joins h =
      let b = event_by x s j f in
      let z : IsEvent x s j b = record { static = f; there = at; happens = h; same = refl } in
      let o = join_end k framed j b z joins in
      let q = o.is_event in
      let same_numbers = nat_eq (number s (word_at words o.node)) (number s (word_at words j)) in (
        o.node,
        (record { event = q.static; there = q.there; same_kind = o.is_end }, record { event = f; there = at; same_kind = joins }),
        and_from (happens s es o.node) (happens s es j && same_numbers) (happens_there o.node o.event q)
            (and_from (happens s es j) same_numbers (happens_there j b z) (eq-eqb (number s (word_at words o.node)) (number s (word_at words j)) o.same)),
      )

  pub fitting : RunsAreFramed → IsFitting x.map.graph.events (words_of x.map.graph.bits) s choice
  fitting framed = record { sources = sources_fit; some_source = some_source; orders = orders_fit; ends = ends_fit; some_end = some_end framed }

  -- an assignment that makes the choice
  pub makes : ChoicesCanBeMade → RunsAreFramed → length s ≡ chain.made.blasted.vars → Makes m x.map.graph.events (words_of x.map.graph.bits) x.problem (orders_made m flat x chain.made) s choice
  makes choices framed long = choices m es words x.problem (orders_made m flat x chain.made) s choice k.over long (fitting framed)
