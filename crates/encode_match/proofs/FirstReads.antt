-- What well made executions ask of reads and of the cells' orders, of the candidate that a consistent assignment spells.
use Rattle.std.proofs.Common.{◌≡◌, ℕ, zero, suc, ◌<◌, ⊎_elim, Bool, true, List, [], ◌∷◌, length, refl, ap, sym, ◌∙◌, subst, arith}
use Rattle.std.specs.Prelude.{Some, slice_get, All}
use Rattle.std.proofs.lemmas.Bool.{and_from}
use Rattle.std.proofs.lemmas.Option.{same_Some, slice_get_within}
use Rattle.std.proofs.lemmas.Slice.Zip.{AllZip-long}
use Rattle.dg_base.specs.declared.Lit.{Lit}
use Rattle.dg_base.proofs.Lists.{get_nothing, get_there, place_of, contains_place}
use Rattle.axiom_model.specs.declared.Action.TheVariants as action
use Rattle.axiom_model.specs.declared.Event.{Event}
use Rattle.axiom_model.specs.declared.Event.TheVariants.{Initial, At}
use Rattle.axiom_model.specs.declared.MemoryModel.{MemoryModel}
use Rattle.axiom_model.specs.declared.RfPair.{RfPair}
use Rattle.axiom_model.specs.declared.Candidate.{Candidate}
use Rattle.axiom_model.specs.Execution.{Execution, action_at}
use Rattle.axiom_model.specs.Failing.{Run, execution_of}
use Rattle.axiom_model.specs.WellMade.{Writes, ReadsOnce, IsWriteOrder}
use Rattle.c_check.specs.declared.checked.Checked.{Checked}
use Rattle.run_model.specs.Programs.{shape_of}
use Rattle.bv_term.specs.Values.{IsConstant}
use Rattle.cnf_problem.specs.Literals.{value}
use Rattle.cnf_problem.specs.Problems.{IsConsistent}
use Rattle.bit_gates.specs.Words.{number}
use Rattle.flat_prog.specs.declared.Flat.{Flat}
use Rattle.loop_unroll.specs.Unrolled.{IsUnrolled}
use Rattle.memory_models.specs.declared.StaticEvent.{StaticEvent}
use Rattle.memory_models.specs.declared.StaticKind.TheVariants as kind
use Rattle.memory_models.specs.declared.EventBits.{EventBits}
use Rattle.memory_models.specs.Events.{IsAt}
use Rattle.memory_models.proofs.Blocks.{one_event}
use Rattle.event_graph.specs.Graphs.{initial_event, events_of, bits_of}
use Rattle.event_graph.specs.Laws.{IsSpelled}
use Rattle.event_graph.proofs.Values.{all_from, have_bits}
use Rattle.order_vars.specs.Links.{is_write}
use Rattle.order_vars.specs.Holding.{word_at}
use Rattle.encode_order.specs.Coherence.{WritesCell, IsInitialOf}
use Rattle.encode_order.proofs.Cells.{first_initial}
use Rattle.encode_order.proofs.Reading.{is_source}
use Rattle.encode_match.specs.declared.Encoded.{Encoded}
use Rattle.encode_match.specs.Spelling.{IsEvent, IsPairOf, IsCoOf, is_read, reads_from, initials_in, Spells}
use Rattle.encode_match.specs.Parts.{IsMadeOf, words_of}
use Rattle.encode_match.specs.Matching.{GraphHolds, MatchesThreads, MakesAt}
use Rattle.encode_match.proofs.Moves.{same_event, event_in_thread, does, initial_is}
use Rattle.encode_match.proofs.PartRuns.{zip_from}
use Rattle.encode_match.proofs.FirstInitials.{initials_count, cell_there, same_number, word_is, initial_value, initial_there}
use Rattle.encode_match.proofs.FirstCandidate.{zip_to, listed_read, read_listed, reads_once, order_events, initials_happen, co_at_cell}
use Rattle.encode_match.proofs.FirstActs.{write_kind, read_made, write_made}

-- a list that begins with an initial write
head_is : (l : List Event) (a : Event) → slice_get l 0 ≡ Some a → a ≡ Initial → (writes : List Event) × (l ≡ Initial ∷ writes)
head_is [] a h i = absurd (get_nothing 0 a h)
head_is (b ∷ l) a h i = (l, ap (λ (z : Event). z ∷ l) (same_Some b a h ∙ i))

module _ (p : Checked) (m : MemoryModel) (flat : Flat) (x : Encoded) (s : List Bool) (un : IsUnrolled p flat) (made : IsMadeOf m flat x) (k : IsSpelled flat made.form made.words s)
    (g : GraphHolds m x s) (con : IsConsistent x.problem s) (c : Candidate) (sp : Spells x s c) (rs : List Run) (t : MatchesThreads x s (execution_of c rs)) where
  abbrev es : List StaticEvent
  es = x.map.graph.events

  abbrev words : List (List Lit)
  words = words_of x.map.graph.bits

  abbrev e : Execution
  e = execution_of c rs

  abbrev reads : List ℕ
  reads = reads_from s 0 es

  -- ---- cells

  cells_are : initials_in es ≡ length made.form.initials
  cells_are = ap initials_in made.events ∙ initials_count made.form made.words

  pub lists_field : length c.co ≡ length (shape_of p.program).initials
  lists_field = sp.cells ∙ (cells_are ∙ (AllZip-long (λ v t. IsConstant made.form.terms t v) flat.initials made.form.initials made.is_form.initials ∙ ap length un.cells))

  bits_there : (n : ℕ) (a : StaticEvent) → IsAt es n a → (b : EventBits) × (slice_get x.map.graph.bits n ≡ Some b)
  bits_there n a h =
      let within = slice_get_within (events_of made.form made.words) n a (subst (λ (z : List StaticEvent). IsAt z n a) made.events h) in
      let same = have_bits made.form made.words in
      let b = get_there (bits_of made.form made.words) n (omega (arith, within, same)) in
      (b.0, ap (λ (z : List EventBits). slice_get z n) made.bits ∙ b.1)

  -- ---- reads

  -- the value that the node of a source writes
  source_writes : (w : ℕ) (src : Event) (cell v : ℕ) (q : IsEvent x s w src) → is_write q.static.kind ≡ true → q.static.cell ≡ cell → number s (word_at words w) ≡ v → Writes (shape_of p.program) e src cell v
  source_writes w src cell v q writes at h =
      let b = bits_there w q.static q.there in
      let is : number s b.0.bits ≡ v = ap (number s) (sym (word_is x.map.graph.bits w b.0 b.1)) ∙ h in
      ⊎_elim
      (λ i.
      let place : q.static.cell ≡ w = (g.initials w q.static q.there i).0 in
      let low = cell_there flat made.form made.words w q.static made.is_form (subst (λ (z : List StaticEvent). IsAt z w q.static) made.events q.there) writes in
      let value_is = initial_value flat made.form made.words s k w b.0 (omega (arith, place, low)) (ap (λ (z : List EventBits). slice_get z w) (sym made.bits) ∙ b.1) in
      let shape : slice_get (shape_of p.program).initials cell ≡ Some v =
      ap (λ (z : List ℕ). slice_get z cell) (sym un.cells) ∙ (ap (λ (z : ℕ). slice_get flat.initials z) (sym at ∙ place) ∙ (value_is ∙ ap Some is)) in
      subst (λ (z : Event). Writes (shape_of p.program) e z cell v) (sym (initial_is x s w src q i)) shape)
      (λ i.
      let d = does x s e t w src kind.Write q i (λ n. cc) in
      let o = event_in_thread x s w src q (λ n. let no : kind.Write ≡ kind.Initial = sym i ∙ n in cc) in
      let bits : number s d.bits.bits ≡ v = ap (λ (z : EventBits). number s z.bits) (same_Some d.bits b.0 (sym d.has_bits ∙ b.1)) ∙ is in
      let act : action_at e src ≡ Some (action.Write cell v) = d.there ∙ ap Some (d.acts ∙ (ap (λ (z : ℕ). action.Write z (number s d.bits.bits)) at ∙ ap (action.Write cell) bits)) in
      subst (λ (z : Event). Writes (shape_of p.program) e z cell v) (sym o.is) (subst (λ (z : Event). action_at e z ≡ Some (action.Write cell v)) o.is act))
      (write_kind q.static.kind writes)

  thread_node : (a b h i : ℕ) (ev : Event) → ev ≡ At h i → IsEvent x s a ev → IsEvent x s b ev → a ≡ b
  thread_node a b h i ev is q r = t.once a b h i (subst (IsEvent x s a) is q) (subst (IsEvent x s b) is r)

  reads_with : (n : ℕ) (ev : Event) (cell v : ℕ) → MakesAt x s n ev (action.Read cell v) → ReadsOnce (shape_of p.program) e ev cell v
  reads_with n ev cell v mk =
      let st = mk.is_event.static in
      let r = read_made s st mk.bits cell v mk.acts in
      let listed = read_listed s es n st mk.is_event.there (and_from (is_read st.kind) (value s st.guard) (ap is_read r.0) mk.is_event.happens) in
      let at = place_of reads n listed in
      let pr = zip_to (IsPairOf x s) reads c.rf at.0 n sp.rf at.1 in
      let reader : pr.0.reader ≡ ev = same_event x s n pr.0.reader ev pr.2.is_reader mk.is_event in
      let o = event_in_thread x s n ev mk.is_event (λ h. let no : kind.Read ≡ kind.Initial = sym r.0 ∙ h in cc) in
      let src = is_source m es words x.problem s (order_events m flat x s made g con) con pr.2.write n pr.2.source.is_true in
      let from = pr.2.is_source in
      let static : src.write.event ≡ from.static = one_event es pr.2.write src.write.event from.static src.write.there from.there in
      let cell_is : from.static.cell ≡ cell =
      ap (λ (z : StaticEvent). z.cell) (sym static) ∙ (src.write.same_cell ∙ (sym src.read.same_cell ∙ (ap (λ (z : StaticEvent). z.cell) (one_event es n src.read.event st src.read.there mk.is_event.there) ∙ sym r.1))) in
      let value_is : number s (word_at words pr.2.write) ≡ v =
      same_number s (word_at words pr.2.write) (word_at words n) src.same_bits ∙ (ap (number s) (word_is x.map.graph.bits n mk.bits mk.has_bits) ∙ sym r.2) in
      record {
        place = at.0;
        source = pr.0.source;
        pair = pr.1 ∙ ap (λ (z : Event). Some (record { reader = z; source = pr.0.source })) reader;
        only = λ j q h same.
            let z = zip_from (IsPairOf x s) reads c.rf j q sp.rf h in
            let node : z.0 ≡ n = thread_node z.0 n o.handle o.index ev o.is (subst (IsEvent x s z.0) same z.2.is_reader) mk.is_event in
            reads_once s 0 es j at.0 n (z.1 ∙ ap Some node) at.1;
        writes = source_writes pr.2.write pr.0.source cell v from (ap (λ (z : StaticEvent). is_write z.kind) (sym static) ∙ src.write.writes) cell_is value_is;
      }

  pub reads_field : (ev : Event) (cell v : ℕ) → action_at e ev ≡ Some (action.Read cell v) → ReadsOnce (shape_of p.program) e ev cell v
  reads_field ev cell v h = let n = t.nodes ev (action.Read cell v) h in reads_with n.0 ev cell v n.1

  pub readers_field : All (λ (q : RfPair). (cell : ℕ) × (v : ℕ) × (action_at e q.reader ≡ Some (action.Read cell v))) c.rf
  readers_field =
      all_from (λ (q : RfPair). (cell : ℕ) × (v : ℕ) × (action_at e q.reader ≡ Some (action.Read cell v))) c.rf
      (λ j q h.
      let z = zip_from (IsPairOf x s) reads c.rf j q sp.rf h in
      let r = listed_read s es z.0 (contains_place reads j z.0 z.1) in
      let ev = z.2.is_reader in
      let is : ev.static.kind ≡ kind.Read = ap (λ (a : StaticEvent). a.kind) (one_event es z.0 ev.static r.event ev.there r.there) ∙ r.reads in
      let d = does x s e t z.0 q.reader kind.Read ev is (λ n. cc) in
      (ev.static.cell, number s d.bits.bits, d.there ∙ ap Some d.acts))

  -- ---- orders

  module _ (cell : ℕ) (l : List Event) (listed : slice_get c.co cell ≡ Some l) where
    order : IsCoOf x s cell l
    order = co_at_cell x s cell c.co l sp.co listed

    cell_low : cell < length made.form.initials
    cell_low = let w = slice_get_within c.co cell l listed in let a = sp.cells in let b = cells_are in omega (arith, w, a, b)

    initial_node : IsAt es cell (initial_event cell)
    initial_node = subst (λ (z : List StaticEvent). IsAt z cell (initial_event cell)) (sym made.events) (initial_there made.form made.words cell cell_low)

    is_initial_of : IsInitialOf es cell cell
    is_initial_of = record { event = initial_event cell; there = initial_node; same_kind = refl; same_cell = refl }

    first_is : slice_get order.nodes 0 ≡ Some cell
    first_is = first_initial m es words x.problem s (order_events m flat x s made g con) (initials_happen m flat x s made g con) cell cell order.nodes is_initial_of order.order

    begun : (writes : List Event) × (l ≡ Initial ∷ writes)
    begun =
        let z = zip_to (IsEvent x s) order.nodes l 0 cell order.events first_is in
        head_is l z.0 z.1 (initial_is x s cell z.0 z.2 (ap (λ (a : StaticEvent). a.kind) (one_event es cell z.2.static (initial_event cell) z.2.there initial_node)))

    abbrev writes : List Event
    writes = begun.0

    in_list : (i : ℕ) (ev : Event) → slice_get writes i ≡ Some ev → slice_get l (suc i) ≡ Some ev
    in_list i ev h = ap (λ (z : List Event). slice_get z (suc i)) begun.1 ∙ h

    from_list : (i : ℕ) (ev : Event) → slice_get l (suc i) ≡ Some ev → slice_get writes i ≡ Some ev
    from_list i ev h = ap (λ (z : List Event). slice_get z (suc i)) (sym begun.1) ∙ h

    -- a later node of the list, with its event
    record LaterNode (i : ℕ) (ev : Event) : Type 0 where
      pub node : ℕ
      pub there : slice_get order.nodes (suc i) ≡ Some node
      pub is_event : IsEvent x s node ev
      pub is_write : is_event.static.kind ≡ kind.Write
      pub same_cell : is_event.static.cell ≡ cell

    later_node : (i : ℕ) (ev : Event) → slice_get writes i ≡ Some ev → LaterNode i ev
    later_node i ev h =
        let z = zip_from (IsEvent x s) order.nodes l (suc i) ev order.events (in_list i ev h) in
        let w = order.order.sound z.0 (contains_place order.nodes (suc i) z.0 z.1) in
        let same : w.event ≡ z.2.static = one_event es z.0 w.event z.2.static w.there z.2.there in
        let at : z.2.static.cell ≡ cell = ap (λ (a : StaticEvent). a.cell) (sym same) ∙ w.same_cell in
        record {
          node = z.0;
          there = z.1;
          is_event = z.2;
          is_write = ⊎_elim
              (λ i0.
              let node : z.0 ≡ cell = sym (g.initials z.0 z.2.static z.2.there i0).0 ∙ at in
              let no : suc i ≡ 0 = order.order.once (suc i) 0 cell (z.1 ∙ ap Some node) first_is in
              absurd (omega (arith, no)))
              (λ w0. w0)
              (write_kind z.2.static.kind (ap (λ (a : StaticEvent). is_write a.kind) (sym same) ∙ w.writes));
          same_cell = at;
        }

    later_once : (i j : ℕ) (ev : Event) → slice_get writes i ≡ Some ev → slice_get writes j ≡ Some ev → i ≡ j
    later_once i j ev a b =
        let u = later_node i ev a in
        let w = later_node j ev b in
        let o = event_in_thread x s u.node ev u.is_event (λ h. let no : kind.Write ≡ kind.Initial = sym u.is_write ∙ h in cc) in
        let node : u.node ≡ w.node = thread_node u.node w.node o.handle o.index ev o.is u.is_event w.is_event in
        let same : suc i ≡ suc j = order.order.once (suc i) (suc j) w.node (u.there ∙ ap Some node) w.there in
        omega (arith, same)

    later_writes : (i : ℕ) (ev : Event) → slice_get writes i ≡ Some ev → (v : ℕ) × (action_at e ev ≡ Some (action.Write cell v))
    later_writes i ev h =
        let u = later_node i ev h in
        let d = does x s e t u.node ev kind.Write u.is_event u.is_write (λ n. cc) in
        (number s d.bits.bits, d.there ∙ ap Some (d.acts ∙ ap (λ (z : ℕ). action.Write z (number s d.bits.bits)) u.same_cell))

    place_in : (i n : ℕ) (ev : Event) → slice_get order.nodes i ≡ Some n → (q : IsEvent x s n ev) → q.static.kind ≡ kind.Write → slice_get l i ≡ Some ev → (j : ℕ) × (slice_get writes j ≡ Some ev)
    place_in zero n ev h q w e0 =
        let node : n ≡ cell = same_Some n cell (sym h ∙ first_is) in
        let st = one_event es cell q.static (initial_event cell) (subst (λ (z : ℕ). IsAt es z q.static) node q.there) initial_node in
        let no : kind.Write ≡ kind.Initial = sym w ∙ ap (λ (a : StaticEvent). a.kind) st in
        absurd (not_both no)
      where
        not_both : kind.Write ≡ kind.Initial → ⊥
        not_both n = cc
    place_in (suc i) n ev h q w e0 = (i, from_list i ev e0)

    all_listed : (ev : Event) (v : ℕ) → action_at e ev ≡ Some (action.Write cell v) → (i : ℕ) × (slice_get writes i ≡ Some ev)
    all_listed ev v h =
        let n = t.nodes ev (action.Write cell v) h in
        let q = n.1.is_event in
        let w = write_made s q.static n.1.bits cell v n.1.acts in
        let here : WritesCell es s cell n.0 = record { event = q.static; there = q.there; happens = q.happens; writes = ap is_write w.0; same_cell = sym w.1 } in
        let at = place_of order.nodes n.0 (order.order.complete n.0 here) in
        let z = zip_to (IsEvent x s) order.nodes l at.0 n.0 order.events at.1 in
        place_in at.0 n.0 ev at.1 q w.0 (z.1 ∙ ap Some (same_event x s n.0 z.0 ev z.2 q))

    pub is_write_order : IsWriteOrder e cell l
    is_write_order = record { writes = writes; initial_first = begun.1; once = later_once; sound = later_writes; complete = all_listed }
