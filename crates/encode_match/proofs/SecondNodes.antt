-- The nodes of an assignment that matches a well made execution: the sources of its reads, the writes of its cells, the ends of its joins.
use Rattle.std.proofs.Common.{◌≡◌, ◌≢◌, ℕ, zero, suc, ◌<◌, ◌⊎◌, inl, inr, ⊎_elim, Bool, true, false, List, [], ◌∷◌, ◌++◌, map, length, refl, ap, sym, ◌∙◌, subst, arith}
use Rattle.std.specs.Prelude.{Some, slice_get, Contains, All}
use Rattle.std.specs.List.{AllZip}
use Rattle.std.proofs.lemmas.Bool.{cases_Bool, cases_order}
use Rattle.std.proofs.lemmas.List.Elements.{All-get_or}
use Rattle.std.proofs.lemmas.Option.{same_Some, none-some, slice_get_within}
use Rattle.std.proofs.lemmas.Slice.Zip.{AllZip-long}
use Rattle.dg_base.specs.declared.Lit.{Lit}
use Rattle.dg_base.specs.Values.{truth_of}
use Rattle.dg_base.proofs.Lists.{get_there, get_push_last, contains_head, contains_tail}
use Rattle.axiom_model.specs.declared.Action.{Action}
use Rattle.axiom_model.specs.declared.Action.TheVariants as action
use Rattle.axiom_model.specs.declared.Event.{Event}
use Rattle.axiom_model.specs.declared.Event.TheVariants.{Initial, At}
use Rattle.axiom_model.specs.declared.MemoryModel.{MemoryModel}
use Rattle.axiom_model.specs.declared.RfPair.{RfPair}
use Rattle.axiom_model.specs.declared.Candidate.{Candidate}
use Rattle.axiom_model.specs.Execution.{Thread, Execution, actions_of, action_at, Rf, Co}
use Rattle.axiom_model.specs.Failing.{Run, RunsTo, execution_of}
use Rattle.axiom_model.specs.WellMade.{Shape, Writes, ReadsOnce, IsWriteOrder, WellMade}
use Rattle.axiom_model.proofs.Threads.{actions_of-thread}
use Rattle.c_check.specs.declared.checked.Checked.{Checked}
use Rattle.run_model.specs.Programs.{shape_of}
use Rattle.run_model.specs.Threads.{thread_run}
use Rattle.run_laws.specs.Frames.{last_of, RunsAreFramed}
use Rattle.bv_term.specs.Values.{IsConstant}
use Rattle.cnf_problem.specs.Literals.{value, IsOver, AreSatisfied}
use Rattle.bit_gates.specs.Words.{number}
use Rattle.bit_gates.proofs.Numbers.{truth_below}
use Rattle.flat_prog.specs.declared.Flat.{Flat}
use Rattle.ssa_form.specs.declared.Ssa.{Ssa}
use Rattle.memory_models.specs.declared.StaticEvent.{StaticEvent}
use Rattle.memory_models.specs.declared.StaticKind.TheVariants as kind
use Rattle.memory_models.specs.declared.EventBits.{EventBits}
use Rattle.memory_models.specs.Events.{IsAt}
use Rattle.event_graph.specs.Graphs.{initial_event, events_of, bits_of}
use Rattle.event_graph.specs.Laws.{IsSpelled}
use Rattle.event_graph.proofs.Values.{have_bits}
use Rattle.order_vars.specs.Links.{is_write}
use Rattle.order_vars.specs.Holding.{word_at, SameBits, HasTrueBit}
use Rattle.order_vars.specs.Orders.{AreEventsOver}
use Rattle.encode_match.specs.declared.Encoded.{Encoded}
use Rattle.encode_match.specs.Spelling.{IsEvent}
use Rattle.encode_match.specs.Parts.{words_of, IsChain}
use Rattle.encode_match.specs.Matching.{MatchesThreads}
use Rattle.encode_match.proofs.Moves.{no_event, event_in_thread, does, initial_is}
use Rattle.encode_match.proofs.HoldingGraphs.{spelled, constant_true, initial_at_cell}
use Rattle.encode_match.proofs.SpelledMatch.{EndsAreOwn}
use Rattle.encode_match.proofs.FirstInitials.{cell_there, word_is, initial_value, initial_there}
use Rattle.encode_match.proofs.FirstActs.{write_kind, write_made, end_made}
use Rattle.encode_match.proofs.SecondThreads.{has_run}

-- ---- numbers

truth_once : (a b : Bool) → truth_of a ≡ truth_of b → a ≡ b
truth_once true true h = refl
truth_once true false h = absurd (omega (arith, h))
truth_once false true h = absurd (omega (arith, h))
truth_once false false h = refl

-- the same numbers in as many bits have the same bits
same_bits : (s : List Bool) (a b : List Lit) → length a ≡ length b → number s a ≡ number s b → map (value s) a ≡ map (value s) b
same_bits s [] [] l e = refl
same_bits s [] (j ∷ b) l e = absurd (omega (arith, l))
same_bits s (i ∷ a) [] l e = absurd (omega (arith, l))
same_bits s (i ∷ a) (j ∷ b) l e =
    let low = truth_below (value s i) in
    let high = truth_below (value s j) in
    let first : truth_of (value s i) ≡ truth_of (value s j) = omega (arith, e, low, high) in
    let rest : number s a ≡ number s b = omega (arith, e, low, high) in
    ap (λ (z : Bool). z ∷ map (value s) a) (truth_once (value s i) (value s j) first) ∙ ap (λ (z : List Bool). value s j ∷ z) (same_bits s a b (omega (arith, l)) rest)

-- a number that is not 0 has a bit that is true
true_bit : (s : List Bool) (ls : List Lit) → number s ls ≢ 0 → (l : Lit) × Contains ls l × (value s l ≡ true)
true_bit s [] h = absurd (h refl)
true_bit s (i ∷ ls) h =
    ⊎_elim
    (λ t. (i, contains_head i ls, t))
    (λ f.
    let zero_bit : truth_of (value s i) ≡ 0 = ap truth_of f in
    let r = true_bit s ls (λ z. h (omega (arith, z, zero_bit))) in
    (r.0, contains_tail i r.0 ls r.1, r.2))
    (cases_Bool (value s i))

-- ---- a list of writes in their order

module _ (e : Execution) (cell : ℕ) (l : List Event) (o : IsWriteOrder e cell l) where
  write_at : (i : ℕ) (a : Event) → slice_get (Initial ∷ o.writes) (suc i) ≡ Some a → a ≡ Initial → ⊥
  write_at i a h is =
      let w = o.sound i a h in
      none-some (action.Write cell w.0) (subst (λ (z : Event). action_at e z ≡ Some (action.Write cell w.0)) is w.1)

  once_in : (i j : ℕ) (a : Event) → slice_get (Initial ∷ o.writes) i ≡ Some a → slice_get (Initial ∷ o.writes) j ≡ Some a → i ≡ j
  once_in zero zero a p q = refl
  once_in zero (suc j) a p q = absurd (write_at j a q (sym (same_Some Initial a p)))
  once_in (suc i) zero a p q = absurd (write_at i a p (sym (same_Some Initial a q)))
  once_in (suc i) (suc j) a p q = ap suc (o.once i j a p q)

  -- no event has two places
  pub once_listed : (i j : ℕ) (a : Event) → slice_get l i ≡ Some a → slice_get l j ≡ Some a → i ≡ j
  once_listed i j a p q =
      once_in i j a (ap (λ (z : List Event). slice_get z i) (sym o.initial_first) ∙ p) (ap (λ (z : List Event). slice_get z j) (sym o.initial_first) ∙ q)

-- ---- nodes

-- an assignment of the values' clauses that matches the threads of a well made execution
pub record Played (p : Checked) (m : MemoryModel) (flat : Flat) (x : Encoded) (chain : IsChain p m flat x) (c : Candidate) (rs : List Run) (s : List Bool) : Type 0 where
  pub whole : AllZip (RunsTo (thread_run p)) c.threads rs
  pub well_made : WellMade (shape_of p.program) (execution_of c rs)
  pub clauses : AreSatisfied s chain.made.blasted.clauses
  pub matches : MatchesThreads x s (execution_of c rs)
  pub own_ends : EndsAreOwn x s
  pub over : AreEventsOver chain.made.blasted.vars x.map.graph.events (words_of x.map.graph.bits)

-- the node of a write of the cell, the initial one among them
pub record Writing (x : Encoded) (s : List Bool) (ev : Event) (cell : ℕ) : Type 0 where
  pub node : ℕ
  pub is_event : IsEvent x s node ev
  pub writes : is_write is_event.static.kind ≡ true
  pub same_cell : is_event.static.cell ≡ cell

-- the node of another write of the cell
pub record PlainWrite (x : Encoded) (s : List Bool) (ev : Event) (cell : ℕ) : Type 0 where
  pub node : ℕ
  pub is_event : IsEvent x s node ev
  pub plain : is_event.static.kind ≡ kind.Write
  pub same_cell : is_event.static.cell ≡ cell

pub writing_of : (x : Encoded) (s : List Bool) (ev : Event) (cell : ℕ) → PlainWrite x s ev cell → Writing x s ev cell
writing_of x s ev cell w = record { node = w.node; is_event = w.is_event; writes = ap is_write w.plain; same_cell = w.same_cell }

module _ {p : Checked} {m : MemoryModel} {flat : Flat} {x : Encoded} {chain : IsChain p m flat x} {c : Candidate} {rs : List Run} {s : List Bool} (k : Played p m flat x chain c rs s) where
  abbrev es : List StaticEvent
  es = x.map.graph.events

  abbrev words : List (List Lit)
  words = words_of x.map.graph.bits

  abbrev e : Execution
  e = execution_of c rs

  abbrev shape : Shape
  shape = shape_of p.program

  abbrev form : Ssa
  form = chain.made.form

  is_spelled : IsSpelled flat chain.made.form chain.made.words s
  is_spelled = spelled m flat x s chain.made k.clauses

  -- ---- cells

  -- an initial write stands at its cell's number, and happens
  pub initials : (n : ℕ) (t : StaticEvent) → IsAt x.map.graph.events n t → t.kind ≡ kind.Initial → (t.cell ≡ n) × (value s t.guard ≡ true)
  initials =
      subst (λ (l : List StaticEvent). (n : ℕ) (t : StaticEvent) → IsAt l n t → t.kind ≡ kind.Initial → (t.cell ≡ n) × (value s t.guard ≡ true)) (sym chain.made.events)
      (initial_at_cell flat chain.made.form chain.made.words s is_spelled (constant_true m flat x s chain.made k.clauses))

  cells_long : length chain.made.form.initials ≡ length (shape_of p.program).initials
  cells_long = AllZip-long (λ v t. IsConstant chain.made.form.terms t v) flat.initials chain.made.form.initials chain.made.is_form.initials ∙ ap length chain.unrolled.cells

  initial_node : (cell : ℕ) → cell < length (shape_of p.program).initials → IsAt x.map.graph.events cell (initial_event cell)
  initial_node cell low =
      let long = cells_long in
      subst (λ (z : List StaticEvent). IsAt z cell (initial_event cell)) (sym chain.made.events) (initial_there chain.made.form chain.made.words cell (omega (arith, low, long)))

  pub initial_writing : (cell : ℕ) → cell < length (shape_of p.program).initials → Writing x s Initial cell
  initial_writing cell low =
      let at = initial_node cell low in
      record {
        node = cell;
        is_event = record { static = initial_event cell; there = at; happens = (initials cell (initial_event cell) at refl).1; same = refl };
        writes = refl;
        same_cell = refl;
      }

  -- each write's cell has an initial value
  low_cell : (n : ℕ) (t : StaticEvent) → IsAt x.map.graph.events n t → is_write t.kind ≡ true → t.cell < length (shape_of p.program).initials
  low_cell n t at w =
      let long = cells_long in
      let low = cell_there flat chain.made.form chain.made.words n t chain.made.is_form (subst (λ (z : List StaticEvent). IsAt z n t) chain.made.events at) w in
      omega (arith, long, low)

  -- ---- values

  bits_there : (n : ℕ) (a : StaticEvent) → IsAt x.map.graph.events n a → (b : EventBits) × (slice_get x.map.graph.bits n ≡ Some b)
  bits_there n a h =
      let within = slice_get_within (events_of chain.made.form chain.made.words) n a (subst (λ (z : List StaticEvent). IsAt z n a) chain.made.events h) in
      let same = have_bits chain.made.form chain.made.words in
      let b = get_there (bits_of chain.made.form chain.made.words) n (omega (arith, within, same)) in
      (b.0, ap (λ (z : List EventBits). slice_get z n) chain.made.bits ∙ b.1)

  word_long : (n : ℕ) (a : StaticEvent) → IsAt x.map.graph.events n a → length (word_at (words_of x.map.graph.bits) n) ≡ 32
  word_long n a h =
      let within = slice_get_within x.map.graph.events n a h in
      let count = k.over.count in
      (All-get_or (λ (w : List Lit). (length w ≡ 32) × All (IsOver chain.made.blasted.vars) w) words n [] (omega (arith, within, count)) k.over.each).0

  -- nodes of the same numbers have the same bits
  pub bits_same : (a b : ℕ) (f g : StaticEvent) → IsAt x.map.graph.events a f → IsAt x.map.graph.events b g → number s (word_at (words_of x.map.graph.bits) a) ≡ number s (word_at (words_of x.map.graph.bits) b)
      → SameBits s (words_of x.map.graph.bits) a b
  bits_same a b f g u w h = same_bits s (word_at words a) (word_at words b) (word_long a f u ∙ sym (word_long b g w)) h

  -- ---- writes

  -- the node of a write of a thread
  pub written_at : (ev : Event) (cell v : ℕ) → action_at (execution_of c rs) ev ≡ Some (action.Write cell v) → PlainWrite x s ev cell
  written_at ev cell v h =
      let n = k.matches.nodes ev (action.Write cell v) h in
      let w = write_made s n.1.is_event.static n.1.bits cell v n.1.acts in
      record { node = n.0; is_event = n.1.is_event; plain = w.0; same_cell = sym w.1 }

  pub writing : (ev : Event) (cell v : ℕ) → Writes (shape_of p.program) (execution_of c rs) ev cell v → Writing x s ev cell
  writing Initial cell v h = initial_writing cell (slice_get_within (shape_of p.program).initials cell v h)
  writing (At h i) cell v w = writing_of x s (At h i) cell (written_at (At h i) cell v w)

  -- what a node of a write of a thread does
  pub writes_at : (n : ℕ) (ev : Event) (q : IsEvent x s n ev) → q.static.kind ≡ kind.Write → (v : ℕ) × (action_at (execution_of c rs) ev ≡ Some (action.Write q.static.cell v))
  writes_at n ev q w = let d = does x s e k.matches n ev kind.Write q w (λ z. cc) in (number s d.bits.bits, d.there ∙ ap Some d.acts)

  -- the value of the node of a source
  written : (w : ℕ) (src : Event) (cell v : ℕ) (q : IsEvent x s w src) → is_write q.static.kind ≡ true → q.static.cell ≡ cell → Writes (shape_of p.program) (execution_of c rs) src cell v
      → number s (word_at (words_of x.map.graph.bits) w) ≡ v
  written w src cell v q writes at h =
      let b = bits_there w q.static q.there in
      let is : number s (word_at words w) ≡ number s b.0.bits = ap (number s) (word_is x.map.graph.bits w b.0 b.1) in
      ⊎_elim
      (λ i.
      let place : q.static.cell ≡ w = (initials w q.static q.there i).0 in
      let low = cell_there flat form chain.made.words w q.static chain.made.is_form (subst (λ (z : List StaticEvent). IsAt z w q.static) chain.made.events q.there) writes in
      let value_is = initial_value flat form chain.made.words s is_spelled w b.0 (omega (arith, place, low)) (ap (λ (z : List EventBits). slice_get z w) (sym chain.made.bits) ∙ b.1) in
      let there : slice_get shape.initials cell ≡ Some v = subst (λ (z : Event). Writes shape e z cell v) (initial_is x s w src q i) h in
      let same : slice_get flat.initials w ≡ slice_get shape.initials cell =
      ap (λ (z : List ℕ). slice_get z w) chain.unrolled.cells ∙ ap (λ (z : ℕ). slice_get shape.initials z) (sym place ∙ at) in
      is ∙ same_Some (number s b.0.bits) v (sym value_is ∙ (same ∙ there)))
      (λ i.
      let d = does x s e k.matches w src kind.Write q i (λ z. cc) in
      let o = event_in_thread x s w src q (λ z. let no : kind.Write ≡ kind.Initial = sym i ∙ z in cc) in
      let bits : number s b.0.bits ≡ number s d.bits.bits = ap (λ (z : EventBits). number s z.bits) (same_Some b.0 d.bits (sym b.1 ∙ d.has_bits)) in
      let there : action_at e src ≡ Some (action.Write cell v) = subst (λ (z : Event). action_at e z ≡ Some (action.Write cell v)) (sym o.is) (subst (λ (z : Event). Writes shape e z cell v) o.is h) in
      let act : action.Write q.static.cell (number s d.bits.bits) ≡ action.Write cell v = sym d.acts ∙ same_Some d.act (action.Write cell v) (sym d.there ∙ there) in
      let last : number s d.bits.bits ≡ v = cc in
      is ∙ (bits ∙ last))
      (write_kind q.static.kind writes)

  -- two nodes of one write are one
  pub one_node : (a b : ℕ) (ev : Event) (q : IsEvent x s a ev) (r : IsEvent x s b ev) → is_write q.static.kind ≡ true → is_write r.static.kind ≡ true → q.static.cell ≡ r.static.cell → a ≡ b
  one_node a b ev q r u w same =
      ⊎_elim
      (λ i. ⊎_elim
      (λ j. sym (initials a q.static q.there i).0 ∙ (same ∙ (initials b r.static r.there j).0))
      (λ j.
      let o = event_in_thread x s b ev r (λ z. let no : kind.Write ≡ kind.Initial = sym j ∙ z in cc) in
      absurd (no_event o.handle o.index (sym (initial_is x s a ev q i) ∙ o.is)))
      (write_kind r.static.kind w))
      (λ i.
      let o = event_in_thread x s a ev q (λ z. let no : kind.Write ≡ kind.Initial = sym i ∙ z in cc) in
      k.matches.once a b o.handle o.index (subst (IsEvent x s a) o.is q) (subst (IsEvent x s b) o.is r))
      (write_kind q.static.kind u)

  -- ---- reads

  -- the pair of a read's node
  pub read_at : (r : ℕ) (ev : Event) (q : IsEvent x s r ev) → q.static.kind ≡ kind.Read → ReadsOnce (shape_of p.program) (execution_of c rs) ev q.static.cell (number s (word_at (words_of x.map.graph.bits) r))
  read_at r ev q is =
      let d = does x s e k.matches r ev kind.Read q is (λ z. cc) in
      let bits : number s d.bits.bits ≡ number s (word_at words r) = ap (number s) (sym (word_is x.map.graph.bits r d.bits d.has_bits)) in
      subst (λ (v : ℕ). ReadsOnce shape e ev q.static.cell v) bits (k.well_made.reads ev q.static.cell (number s d.bits.bits) (d.there ∙ ap Some d.acts))

  -- the source of a pair with the reader is the read's
  pub pair_source : (r : ℕ) (a b : Event) (q : IsEvent x s r b) (is : q.static.kind ≡ kind.Read) → Rf (execution_of c rs) a b → a ≡ (read_at r b q is).source
  pair_source r a b q is f =
      let o = read_at r b q is in
      let place : f.0 ≡ o.place = o.only f.0 (record { reader = b; source = a }) f.1 refl in
      ap (λ (z : RfPair). z.source) (same_Some (record { reader = b; source = a }) (record { reader = b; source = o.source }) (sym f.1 ∙ (ap (λ (z : ℕ). slice_get c.rf z) place ∙ o.pair)))

  -- a read has the bits of its source
  pub source_bits : (w r : ℕ) (a b : Event) (q : IsEvent x s w a) (z : IsEvent x s r b) → is_write q.static.kind ≡ true → z.static.kind ≡ kind.Read → q.static.cell ≡ z.static.cell → Rf (execution_of c rs) a b
      → SameBits s (words_of x.map.graph.bits) w r
  source_bits w r a b q z writes reads same f =
      let o = read_at r b z reads in
      let v = number s (word_at words r) in
      bits_same w r q.static z.static q.there z.there
      (written w a z.static.cell v q writes same (subst (λ (ev : Event). Writes shape e ev z.static.cell v) (sym (pair_source r a b z reads f)) o.writes))

  -- ---- lists of cells

  pub list_there : (n : ℕ) (t : StaticEvent) → IsAt x.map.graph.events n t → is_write t.kind ≡ true → (l : List Event) × (slice_get c.co t.cell ≡ Some l)
  list_there n t at w = let low = low_cell n t at w in let count = k.well_made.lists in get_there c.co t.cell (omega (arith, low, count))

  module _ (cell : ℕ) (l : List Event) (listed : slice_get c.co cell ≡ Some l) where
    -- a later event of the list is a write of a thread
    pub later_at : (i : ℕ) (ev : Event) → slice_get l (suc i) ≡ Some ev → PlainWrite x s ev cell
    later_at i ev h =
        let o = k.well_made.orders cell l listed in
        let w = o.sound i ev (ap (λ (z : List Event). slice_get z (suc i)) (sym o.initial_first) ∙ h) in
        written_at ev cell w.0 w.1

    -- each event of the list has a node
    pub node_at : (i : ℕ) (ev : Event) → slice_get l i ≡ Some ev → Writing x s ev cell
    node_at zero ev h =
        let o = k.well_made.orders cell l listed in
        let is : Initial ≡ ev = same_Some Initial ev (ap (λ (z : List Event). slice_get z 0) (sym o.initial_first) ∙ h) in
        let within = slice_get_within c.co cell l listed in
        let count = k.well_made.lists in
        subst (λ (z : Event). Writing x s z cell) is (initial_writing cell (omega (arith, within, count)))
    node_at (suc i) ev h = writing_of x s ev cell (later_at i ev h)

    -- each node of a write of a thread has a later place
    pub plain_at : (n : ℕ) (ev : Event) (q : IsEvent x s n ev) → q.static.kind ≡ kind.Write → q.static.cell ≡ cell → (j : ℕ) × (slice_get l (suc j) ≡ Some ev)
    plain_at n ev q plain at =
        let o = k.well_made.orders cell l listed in
        let d = writes_at n ev q plain in
        let r = o.complete ev d.0 (d.1 ∙ ap (λ (z : ℕ). Some (action.Write z d.0)) at) in
        (r.0, ap (λ (z : List Event). slice_get z (suc r.0)) o.initial_first ∙ r.1)

    -- an initial write has the first place
    pub first_at : (n : ℕ) (ev : Event) (q : IsEvent x s n ev) → q.static.kind ≡ kind.Initial → slice_get l 0 ≡ Some ev
    first_at n ev q i = let o = k.well_made.orders cell l listed in ap (λ (z : List Event). slice_get z 0) o.initial_first ∙ ap Some (sym (initial_is x s n ev q i))

    -- so each node of the cell has a place
    pub place_at : (n : ℕ) (ev : Event) (q : IsEvent x s n ev) → is_write q.static.kind ≡ true → q.static.cell ≡ cell → (i : ℕ) × (slice_get l i ≡ Some ev)
    place_at n ev q writes at =
        ⊎_elim
        (λ i. (zero, first_at n ev q i))
        (λ i. let r = plain_at n ev q i at in (suc r.0, r.1))
        (write_kind q.static.kind writes)

  -- of two writes of a cell one stands before the other
  pub either_way : (w v : ℕ) (a b : Event) (q : IsEvent x s w a) (r : IsEvent x s v b) → is_write q.static.kind ≡ true → is_write r.static.kind ≡ true → r.static.cell ≡ q.static.cell → (w ≡ v → ⊥)
      → Co (execution_of c rs) q.static.cell a b ⊎ Co (execution_of c rs) q.static.cell b a
  either_way w v a b q r writes other same apart =
      let l = list_there w q.static q.there writes in
      let i = place_at q.static.cell l.0 l.1 w a q writes refl in
      let j = place_at q.static.cell l.0 l.1 v b r other same in
      ⊎_elim
      (λ z.
      let one : a ≡ b = same_Some a b (sym i.1 ∙ (ap (λ (n : ℕ). slice_get l.0 n) z ∙ j.1)) in
      let meets : w ≡ v = subst (λ (z : Event). (t : IsEvent x s v z) → is_write t.static.kind ≡ true → t.static.cell ≡ q.static.cell → w ≡ v) one (λ t u g. one_node w v a q t writes u (sym g)) r other same in
      absurd (apart meets))
      (λ y. ⊎_elim (λ z. inl (l.0, l.1, (i.0, j.0, z, i.1, j.1))) (λ z. inr (l.0, l.1, (j.0, i.0, z, j.1, i.1))) y)
      (cases_order i.0 j.0)

  -- ---- joins

  join_acts : (j : ℕ) (ev : Event) (q : IsEvent x s j ev) → q.static.kind ≡ kind.Join → action_at (execution_of c rs) ev ≡ Some (action.Join (number s (word_at (words_of x.map.graph.bits) j)))
  join_acts j ev q is =
      let d = does x s e k.matches j ev kind.Join q is (λ z. cc) in
      d.there ∙ ap Some (d.acts ∙ ap action.Join (ap (number s) (sym (word_is x.map.graph.bits j d.bits d.has_bits))))

  -- a join's handle is not 0
  pub join_bit : (j : ℕ) (ev : Event) (q : IsEvent x s j ev) → q.static.kind ≡ kind.Join → HasTrueBit s (words_of x.map.graph.bits) j
  join_bit j ev q is =
      let h = number s (word_at words j) in
      true_bit s (word_at words j) (k.well_made.joins ev h (join_acts j ev q is)).0

  -- the node of the end of a thread
  pub record Ending (h : ℕ) : Type 0 where
    pub node : ℕ
    pub event : Event
    pub is_event : IsEvent x s node event
    pub is_end : is_event.static.kind ≡ kind.End
    pub same : number s (word_at (words_of x.map.graph.bits) node) ≡ h

  end_at : (h i : ℕ) → action_at (execution_of c rs) (At h i) ≡ Some action.End → Ending h
  end_at h i at =
      let n = k.matches.nodes (At h i) action.End at in
      let q = n.1.is_event in
      let is = end_made s q.static n.1.bits n.1.acts in
      let own : h ≡ number s n.1.bits.bits = k.own_ends n.0 q.static (At h i) n.1.bits q.there q.happens is q n.1.has_bits in
      record { node = n.0; event = At h i; is_event = q; is_end = is; same = ap (number s) (word_is x.map.graph.bits n.0 n.1.bits n.1.has_bits) ∙ sym own }

  -- the end that a join waits for
  pub join_end : RunsAreFramed → (j : ℕ) (ev : Event) (q : IsEvent x s j ev) → q.static.kind ≡ kind.Join → Ending (number s (word_at (words_of x.map.graph.bits) j))
  join_end framed j ev q is =
      let h = number s (word_at words j) in
      let t = (k.well_made.joins ev h (join_acts j ev q is)).1 in
      let r = has_run p c.threads rs t.0 t.1 k.whole t.2 in
      let fr = framed p r.part.function r.part.handle r.part.arg r.part.script r.run r.runs.0 in
      let ended : r.run.ended ≡ true = ap (λ (z : Thread). z.ended) r.is ∙ t.4 in
      let acts : actions_of e.threads h ≡ r.run.actions =
      ap (λ (z : ℕ). actions_of e.threads z) (sym t.3) ∙ (actions_of-thread e.threads k.well_made.rising t.0 t.1 t.2 ∙ ap (λ (z : Thread). z.actions) (sym r.is)) in
      let shown : r.run.actions ≡ action.Start ∷ (fr.inner ++ action.End ∷ []) = fr.whole ∙ ap (λ (z : Bool). action.Start ∷ (fr.inner ++ last_of z)) ended in
      end_at h (suc (length fr.inner)) (ap (λ (z : List Action). slice_get z (suc (length fr.inner))) (acts ∙ shown) ∙ get_push_last fr.inner action.End)
