-- An assignment that makes an execution's choice matches it.
use Rattle.std.proofs.Common.{◌≡◌, ℕ, zero, suc, ◌<◌, inl, inr, ⊎_elim, Bool, true, List, ◌++◌, refl, ap, sym, ◌∙◌, subst, arith}
use Rattle.std.specs.Prelude.{Some, slice_get}
use Rattle.std.proofs.lemmas.Bool.{cases_order}
use Rattle.axiom_model.specs.declared.Action.TheVariants as action
use Rattle.axiom_model.specs.declared.Event.{Event}
use Rattle.axiom_model.specs.declared.MemoryModel.{MemoryModel}
use Rattle.axiom_model.specs.declared.RfPair.{RfPair}
use Rattle.axiom_model.specs.declared.Candidate.{Candidate}
use Rattle.axiom_model.specs.Execution.{Execution, action_at, Rf, Co}
use Rattle.axiom_model.specs.Failing.{Run, execution_of}
use Rattle.c_check.specs.declared.checked.Checked.{Checked}
use Rattle.run_laws.specs.Frames.{RunsAreFramed}
use Rattle.cnf_problem.specs.Literals.{value}
use Rattle.bit_gates.specs.Words.{number}
use Rattle.flat_prog.specs.declared.Flat.{Flat}
use Rattle.memory_models.specs.declared.StaticEvent.{StaticEvent}
use Rattle.memory_models.specs.declared.StaticKind.TheVariants as kind
use Rattle.memory_models.specs.Events.{IsAt}
use Rattle.memory_models.proofs.Blocks.{one_event}
use Rattle.order_vars.specs.Links.{is_write, IsWriteOf, IsKindOf, MayRead, AreRivals}
use Rattle.order_vars.specs.Holding.{OrderHolds, word_at}
use Rattle.encode_order.specs.Choices.{Makes}
use Rattle.encode_match.specs.declared.Encoded.{Encoded}
use Rattle.encode_match.specs.Spelling.{IsEvent, event_by, IsBefore, ReadsFrom}
use Rattle.encode_match.specs.Parts.{words_of, IsChain}
use Rattle.encode_match.specs.Matching.{AtNodes, AtEvents, CellBefore, Matches}
use Rattle.encode_match.proofs.PartRuns.{all_at}
use Rattle.encode_match.proofs.Moves.{same_event}
use Rattle.encode_match.proofs.FirstActs.{write_kind, read_made}
use Rattle.encode_match.proofs.FirstCandidate.{orders_made}
use Rattle.encode_match.proofs.FirstJoins.{joins_field, joins_back_field}
use Rattle.encode_match.proofs.SecondNodes.{Played, Writing, PlainWrite, read_at, pair_source, writing, later_at, node_at, plain_at, first_at, once_listed, list_there, initials}
use Rattle.encode_match.proofs.SecondChoice.{event_of, choice, event_there, source_chosen, source_said, before_chosen, before_said}

module _ {p : Checked} {m : MemoryModel} {flat : Flat} {x : Encoded} {chain : IsChain p m flat x} {c : Candidate} {rs : List Run} {s : List Bool} (k : Played p m flat x chain c rs s)
    (made : Makes m x.map.graph.events (words_of x.map.graph.bits) x.problem (orders_made m flat x chain.made) s (choice k)) (u : Played p m flat x chain c rs (s ++ made.more))
    (up : (n : ℕ) (a : Event) → IsEvent x s n a → IsEvent x (s ++ made.more) n a) (down : (n : ℕ) (a : Event) → IsEvent x (s ++ made.more) n a → IsEvent x s n a) where
  abbrev es : List StaticEvent
  es = x.map.graph.events

  abbrev e : Execution
  e = execution_of c rs

  abbrev now : List Bool
  now = s ++ made.more

  -- ---- sources

  rf_nodes : (w r : Event) (cell v : ℕ) → action_at (execution_of c rs) r ≡ Some (action.Read cell v) → Rf (execution_of c rs) w r → AtNodes x (s ++ made.more) (ReadsFrom x (s ++ made.more)) w r
  rf_nodes w r cell v at f =
      let n = u.matches.nodes r (action.Read cell v) at in
      let z = n.1.is_event in
      let is = (read_made now z.static n.1.bits cell v n.1.acts).0 in
      let o = read_at u n.0 r z is in
      let a = writing u o.source z.static.cell (number now (word_at (words_of x.map.graph.bits) n.0)) o.writes in
      let source : o.source ≡ w = sym (pair_source u n.0 w r z is f) in
      let q : IsEvent x now a.node w = subst (IsEvent x now a.node) source a.is_event in
      let may : MayRead es a.node n.0 = (
        z.static.cell,
        record { event = a.is_event.static; there = a.is_event.there; writes = a.writes; same_cell = a.same_cell },
        record { event = z.static; there = z.there; same_kind = is; same_cell = refl },
      ) in
      (a.node, n.0, q, z, (made.reads a.node n.0).1 (may, source_chosen k a.node n.0 w r (down a.node w q) (down n.0 r z) f))

  rf_field : (w r : Event) → Rf (execution_of c rs) w r → AtNodes x (s ++ made.more) (ReadsFrom x (s ++ made.more)) w r
  rf_field w r f =
      let d = all_at (λ (q : RfPair). (cell : ℕ) × (v : ℕ) × (action_at e q.reader ≡ Some (action.Read cell v))) c.rf f.0 (record { reader = r; source = w }) u.well_made.readers f.1 in
      rf_nodes w r d.0 d.1 d.2 f

  rf_back_field : (a b : ℕ) → ReadsFrom x (s ++ made.more) a b → AtEvents x (s ++ made.more) (Rf (execution_of c rs)) a b
  rf_back_field a b h =
      let t = (made.reads a b).0 h in
      let w = t.0.1 in
      let r = t.0.2 in
      let d = source_said k a b t.1 in
      (event_of k a, event_of k b, up a (event_of k a) (event_there k a w.event w.there d.first), up b (event_of k b) (event_there k b r.event r.there d.second), d.related)

  -- ---- orders

  write_of : (cell : ℕ) (ev : Event) (w : Writing x (s ++ made.more) ev cell) → IsWriteOf x.map.graph.events cell w.node
  write_of cell ev w = record { event = w.is_event.static; there = w.is_event.there; writes = w.writes; same_cell = w.same_cell }

  plain_of : (cell : ℕ) (ev : Event) (w : PlainWrite x (s ++ made.more) ev cell) → IsKindOf x.map.graph.events kind.Write cell w.node
  plain_of cell ev w = record { event = w.is_event.static; there = w.is_event.there; same_kind = w.plain; same_cell = w.same_cell }

  -- what stands before a later write in its cell's list is before it
  before_later : (cell i j : ℕ) (l : List Event) (a b : Event) → slice_get c.co cell ≡ Some l → i < suc j → slice_get l i ≡ Some a → slice_get l (suc j) ≡ Some b
      → (w : Writing x (s ++ made.more) a cell) (v : PlainWrite x (s ++ made.more) b cell) → IsBefore x (s ++ made.more) w.node v.node
  before_later cell i j l a b listed low first second w v =
      let q = down w.node a w.is_event in
      let z = down v.node b v.is_event in
      ⊎_elim
      (λ h.
      let initial : IsKindOf es kind.Initial cell w.node = record { event = w.is_event.static; there = w.is_event.there; same_kind = h; same_cell = w.same_cell } in
      (made.orders w.node v.node).1 (inl ((cell, initial, plain_of cell b v), (z.static, z.there, z.happens))))
      (λ h.
      let plain : PlainWrite x now a cell = record { node = w.node; is_event = w.is_event; plain = h; same_cell = w.same_cell } in
      let at : q.static.cell ≡ cell = ap (λ (f : StaticEvent). f.cell) (one_event es w.node q.static w.is_event.static q.there w.is_event.there) ∙ w.same_cell in
      let chosen = before_chosen k w.node v.node a b q z (subst (λ (n : ℕ). Co e n a b) (sym at) (l, listed, (i, suc j, low, first, second))) in
      (made.orders w.node v.node).1
      (⊎_elim
      (λ same.
      let one : a ≡ b = same_event x now v.node a b (subst (λ (n : ℕ). IsEvent x now n a) same w.is_event) v.is_event in
      absurd (apart one))
      (λ way. ⊎_elim
      (λ less. inr (inl (cell, plain_of cell a plain, plain_of cell b v, less), chosen))
      (λ more. inr (inr (cell, plain_of cell b v, plain_of cell a plain, more), chosen))
      way)
      (cases_order w.node v.node)))
      (write_kind w.is_event.static.kind w.writes)
    where
      apart : a ≡ b → ⊥
      apart one = let same = once_listed e cell l (u.well_made.orders cell l listed) i (suc j) b (first ∙ ap Some one) second in omega (arith, same, low)

  co_at : (cell i j : ℕ) (l : List Event) (a b : Event) → slice_get c.co cell ≡ Some l → i < j → slice_get l i ≡ Some a → slice_get l j ≡ Some b → AtNodes x (s ++ made.more) (CellBefore x (s ++ made.more) cell) a b
  co_at cell i zero l a b listed low first second = absurd (omega (arith, low))
  co_at cell i (suc j) l a b listed low first second =
      let w = node_at u cell l listed i a first in
      let v = later_at u cell l listed j b second in
      (w.node, v.node, w.is_event, v.is_event, (write_of cell a w, before_later cell i j l a b listed low first second w v))

  co_field : (cell : ℕ) (a b : Event) → Co (execution_of c rs) cell a b → AtNodes x (s ++ made.more) (CellBefore x (s ++ made.more) cell) a b
  co_field cell a b f = co_at cell f.2.0 f.2.1 f.0 a b f.1 f.2.2 f.2.3 f.2.4

  -- an initial write comes first
  begins_back : (cell a b : ℕ) (f g : StaticEvent) → IsAt x.map.graph.events a f → IsAt x.map.graph.events b g → f.kind ≡ kind.Initial → g.kind ≡ kind.Write → g.cell ≡ cell → value s g.guard ≡ true
      → AtEvents x (s ++ made.more) (Co (execution_of c rs) cell) a b
  begins_back cell a b f g first second initial plain at h =
      let q : IsEvent x now a (event_by x s a f) = up a (event_by x s a f) (record { static = f; there = first; happens = (initials k a f first initial).1; same = refl }) in
      let z : IsEvent x now b (event_by x s b g) = up b (event_by x s b g) (record { static = g; there = second; happens = h; same = refl }) in
      let l = list_there u b g second (ap is_write plain) in
      let listed : slice_get c.co cell ≡ Some l.0 = ap (λ (n : ℕ). slice_get c.co n) (sym at) ∙ l.1 in
      let qs : q.static ≡ f = one_event es a q.static f q.there first in
      let zs : z.static ≡ g = one_event es b z.static g z.there second in
      let i = first_at u cell l.0 listed a (event_by x s a f) q (ap (λ (v : StaticEvent). v.kind) qs ∙ initial) in
      let j = plain_at u cell l.0 listed b (event_by x s b g) z (ap (λ (v : StaticEvent). v.kind) zs ∙ plain) (ap (λ (v : StaticEvent). v.cell) zs ∙ at) in
      (event_by x s a f, event_by x s b g, q, z, (l.0, listed, (zero, suc j.0, omega arith, i, j.1)))

  rivals_back : (cell a b : ℕ) (f g : StaticEvent) → IsAt x.map.graph.events a f → IsAt x.map.graph.events b g → f.cell ≡ cell → (choice k).before a b ≡ true → AtEvents x (s ++ made.more) (Co (execution_of c rs) cell) a b
  rivals_back cell a b f g first second at t =
      let d = before_said k a b f first t in
      (event_of k a, event_of k b, up a (event_of k a) (event_there k a f first d.first), up b (event_of k b) (event_there k b g second d.second), subst (λ (n : ℕ). Co e n (event_of k a) (event_of k b)) at d.related)

  co_back_field : (cell a b : ℕ) → CellBefore x (s ++ made.more) cell a b → AtEvents x (s ++ made.more) (Co (execution_of c rs) cell) a b
  co_back_field cell a b h =
      let f = h.0 in
      ⊎_elim
      (λ t.
      let i = t.0.1 in
      let w = t.0.2 in
      let at : t.0.0 ≡ cell = sym i.same_cell ∙ (ap (λ (v : StaticEvent). v.cell) (one_event es a i.event f.event i.there f.there) ∙ f.same_cell) in
      let g = t.1 in
      let same = one_event es b w.event g.0 w.there g.1 in
      begins_back cell a b i.event w.event i.there w.there i.same_kind w.same_kind (w.same_cell ∙ at) (ap (λ (v : StaticEvent). value s v.guard) same ∙ g.2))
      (λ t. ⊎_elim
      (λ (r : AreRivals es a b). rivals_back cell a b f.event r.2.event f.there r.2.there f.same_cell t.1)
      (λ (r : AreRivals es b a). rivals_back cell a b f.event r.1.event f.there r.1.there f.same_cell t.1)
      t.0)
      ((made.orders a b).0 h.1)

  -- ---- the whole

  pub matches_now : RunsAreFramed → Matches x (s ++ made.more) chain.made.orders.links (execution_of c rs)
  matches_now framed =
      let links = chain.made.orders.links in
      let holds : OrderHolds es (words_of x.map.graph.bits) links now = (chain.made.orders.exact now).0 made.clauses in
      record {
        threads = u.matches;
        rf = rf_field;
        rf_back = rf_back_field;
        co = co_field;
        co_back = co_back_field;
        joins = joins_field p framed x now links (λ l h. (chain.made.orders.sound l h).0) holds c rs u.whole u.matches u.own_ends;
        joins_back = joins_back_field p framed x now links (λ l h. (chain.made.orders.sound l h).0) holds c rs u.whole u.matches u.own_ends;
      }
