-- The relations of a spelled candidate are the atoms that are true.
use Rattle.std.proofs.Common.{◌≡◌, ℕ, ◌<◌, Bool, List, length, ap, sym, ◌∙◌, subst, arith}
use Rattle.std.proofs.lemmas.Bool.{and_from}
use Rattle.dg_base.specs.declared.Lit.{Lit}
use Rattle.dg_base.proofs.Lists.{get_there, place_of, contains_place}
use Rattle.axiom_model.specs.declared.MemoryModel.{MemoryModel}
use Rattle.axiom_model.specs.declared.Event.{Event}
use Rattle.axiom_model.specs.declared.Candidate.{Candidate}
use Rattle.axiom_model.specs.Execution.{Execution, Rf, Co}
use Rattle.axiom_model.specs.Failing.{Run, execution_of}
use Rattle.cnf_problem.specs.Literals.{value}
use Rattle.cnf_problem.specs.Problems.{IsConsistent}
use Rattle.flat_prog.specs.declared.Flat.{Flat}
use Rattle.memory_models.specs.declared.StaticEvent.{StaticEvent}
use Rattle.memory_models.specs.Events.{IsAt}
use Rattle.memory_models.proofs.Blocks.{one_event}
use Rattle.order_vars.specs.Links.{IsWriteOf}
use Rattle.encode_order.specs.Coherence.{WritesCell}
use Rattle.encode_order.proofs.Before.{two_writes}
use Rattle.encode_order.proofs.Reading.{is_source, one_source}
use Rattle.encode_match.specs.declared.Encoded.{Encoded}
use Rattle.encode_match.specs.Spelling.{IsEvent, IsPairOf, ReadsFrom, is_read, reads_from, initials_in, Spells}
use Rattle.encode_match.specs.Parts.{IsMadeOf, words_of}
use Rattle.encode_match.specs.Matching.{GraphHolds, AtNodes, AtEvents, CellBefore}
use Rattle.encode_match.proofs.PartRuns.{zip_from}
use Rattle.encode_match.proofs.FirstInitials.{initials_count, cell_there}
use Rattle.encode_match.proofs.FirstCandidate.{zip_to, read_listed, order_events, one_initial, initials_happen, co_at_cell}

module _ (m : MemoryModel) (flat : Flat) (x : Encoded) (s : List Bool) (made : IsMadeOf m flat x) (g : GraphHolds m x s) (con : IsConsistent x.problem s) (c : Candidate) (sp : Spells x s c) (rs : List Run) where
  abbrev es : List StaticEvent
  es = x.map.graph.events

  abbrev words : List (List Lit)
  words = words_of x.map.graph.bits

  abbrev e : Execution
  e = execution_of c rs

  abbrev reads : List ℕ
  reads = reads_from s 0 es

  -- ---- sources

  pub rf_field : (w r : Event) → Rf e w r → AtNodes x s (ReadsFrom x s) w r
  rf_field w r h =
      let z = zip_from (IsPairOf x s) reads c.rf h.0 (record { reader = r; source = w }) sp.rf h.1 in
      (z.2.write, z.0, z.2.is_source, z.2.is_reader, z.2.source.is_true)

  pub rf_back_field : (a b : ℕ) → ReadsFrom x s a b → AtEvents x s (Rf e) a b
  rf_back_field a b h =
      let o = order_events m flat x s made g con in
      let k = is_source m es words x.problem s o con a b h in
      let listed = read_listed s es b k.read.event k.read.there (and_from (is_read k.read.event.kind) (value s k.read.event.guard) (ap is_read k.read.reads) k.read.happens) in
      let at = place_of reads b listed in
      let p = zip_to (IsPairOf x s) reads c.rf at.0 b sp.rf at.1 in
      let same : p.2.write ≡ a = one_source m es words x.problem s o con (one_initial m flat x s made g con) p.2.write a b p.2.source.is_true h in
      (p.0.source, p.0.reader, subst (λ (z : ℕ). IsEvent x s z p.0.source) same p.2.is_source, p.2.is_reader, (at.0, p.1))

  -- ---- orders

  pub co_field : (k : ℕ) (w v : Event) → Co e k w v → AtNodes x s (CellBefore x s k) w v
  co_field k w v h =
      let o = co_at_cell x s k c.co h.0 sp.co h.1 in
      let p = h.2 in
      let a = zip_from (IsEvent x s) o.nodes h.0 p.0 w o.events p.3 in
      let b = zip_from (IsEvent x s) o.nodes h.0 p.1 v o.events p.4 in
      let write = o.order.sound a.0 (contains_place o.nodes p.0 a.0 a.1) in
      let write_of : IsWriteOf es k a.0 = record { event = write.event; there = write.there; writes = write.writes; same_cell = write.same_cell } in
      (a.0, b.0, a.2, b.2, (write_of, (o.order.ordered p.0 p.1 a.0 b.0 a.1 b.1).0 p.2))

  -- each write's cell has a list
  cell_listed : (k n : ℕ) → IsWriteOf es k n → k < length c.co
  cell_listed k n w =
      let few = cell_there flat made.form made.words n w.event made.is_form (subst (λ (z : List StaticEvent). IsAt z n w.event) made.events w.there) w.writes in
      let cells = sp.cells in
      let count = ap initials_in made.events ∙ initials_count made.form made.words in
      let same = w.same_cell in
      omega (arith, few, cells, count, same)

  pub co_back_field : (k a b : ℕ) → CellBefore x s k a b → AtEvents x s (Co e k) a b
  co_back_field k a b h =
      let two = two_writes m es words x.problem s (order_events m flat x s made g con) con (initials_happen m flat x s made g con) a b h.1 in
      let same : two.cell ≡ k = sym two.first.same_cell ∙ (ap (λ (z : StaticEvent). z.cell) (one_event es a two.first.event h.0.event two.first.there h.0.there) ∙ h.0.same_cell) in
      let l = get_there c.co k (cell_listed k a h.0) in
      let o = co_at_cell x s k c.co l.0 sp.co l.1 in
      let first = place_of o.nodes a (o.order.complete a (subst (λ (z : ℕ). WritesCell es s z a) same two.first)) in
      let second = place_of o.nodes b (o.order.complete b (subst (λ (z : ℕ). WritesCell es s z b) same two.second)) in
      let u = zip_to (IsEvent x s) o.nodes l.0 first.0 a o.events first.1 in
      let w = zip_to (IsEvent x s) o.nodes l.0 second.0 b o.events second.1 in
      (u.0, w.0, u.2, w.2, (l.0, l.1, (first.0, second.0, (o.order.ordered first.0 second.0 a b first.1 second.1).1 h.1, u.1, w.1)))
