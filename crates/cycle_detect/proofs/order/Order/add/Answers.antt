use Rattle.std.proofs.Common.{◌≡◌, ◌<◌, ◌≤◌, ℕ, List, Bool, true, false, length, ap, sym, ◌∙◌, subst, arith}
use Rattle.std.specs.Prelude.{Option, None, IfNone, slice_get, slice_index}
use Rattle.std.proofs.lemmas.Option.{slice_get_within}
use Rattle.cycle_detect.specs.declared.search.Visit.{Visit}
use Rattle.cycle_detect.specs.Orders.{OrderView, IsClosed}
use Rattle.cycle_detect.specs.Parts.{AreVisits, IsTrace, IsClosedAt, is_seen}
use Rattle.cycle_detect.proofs.Paths.{kept_acyclic, closed_cycle}
use Rattle.cycle_detect.proofs.Traces.{trace_closed}
use Rattle.cycle_detect.proofs.Visiting.{visits_few}
use Rattle.cycle_detect.proofs.Whole.{written_back, read_place, place_within, places_forward, parts_forward, parts_closed, parts_moved, forgotten, moved_cost, closed_cost, cost_at, never_forward, near_at}
use Rattle.cycle_detect.proofs.order.Order.add.Goals as goal

pub invariant_of-self : goal.invariant_of-self
invariant_of-self g c =
    let i = c.self.inside in
    let p = c.self.invariant in
    let o : OrderView = record { nodes = i.edges.nodes; max_edges = i.edges.limit; edges = i.edges.list; order = i.order.items; cycle = i.cycle.items } in
    let view : ◌≡◌ {A = OrderView} o c.args.self.now = c.self.view_is in
    let nodes = ap (λ (v : OrderView). v.nodes) view in
    let f : c.args.from < i.edges.nodes = omega (arith, nodes, c.requires.from) in
    let t : c.args.to < i.edges.nodes = omega (arith, nodes, c.requires.to) in
    let low = read_place o i.places.items i.seen.items c.args.to c.index-low.result.now p.0 t c.index-low.ensures in
    let high = read_place o i.places.items i.seen.items c.args.from c.index-high.result.now p.0 f c.index-high.ensures in
    let room : length i.edges.list < i.edges.limit = omega (arith, ap (λ (v : OrderView). length v.edges) view, ap (λ (v : OrderView). v.max_edges) view, c.requires.room) in
    let h : slice_index i.places.items c.args.from < slice_index i.places.items c.args.to = omega (arith, low, high, c.if-high-low.true) in
    let parts = parts_forward i.edges.nodes i.edges.limit c.args.from c.args.to i.edges.list i.order.items i.places.items i.cycle.items i.seen.items p.0 room f t h in
    rw c.push.ensures (parts, p.1, p.2, p.3)

pub returns-then-high-low-clause-kept : goal.returns-then-high-low-clause-kept
returns-then-high-low-clause-kept g c =
    let i = c.self.inside in
    let p = c.self.invariant in
    let o : OrderView = record { nodes = i.edges.nodes; max_edges = i.edges.limit; edges = i.edges.list; order = i.order.items; cycle = i.cycle.items } in
    let view : ◌≡◌ {A = OrderView} o c.args.self.now = c.self.view_is in
    let nodes = ap (λ (v : OrderView). v.nodes) view in
    let f : c.args.from < i.edges.nodes = omega (arith, nodes, c.requires.from) in
    let t : c.args.to < i.edges.nodes = omega (arith, nodes, c.requires.to) in
    let low = read_place o i.places.items i.seen.items c.args.to c.index-low.result.now p.0 t c.index-low.ensures in
    let high = read_place o i.places.items i.seen.items c.args.from c.index-high.result.now p.0 f c.index-high.ensures in
    let room : length i.edges.list < i.edges.limit = omega (arith, ap (λ (v : OrderView). length v.edges) view, ap (λ (v : OrderView). v.max_edges) view, c.requires.room) in
    let h : slice_index i.places.items c.args.from < slice_index i.places.items c.args.to = omega (arith, low, high, c.if-high-low.true) in
    let parts = parts_forward i.edges.nodes i.edges.limit c.args.from c.args.to i.edges.list i.order.items i.places.items i.cycle.items i.seen.items p.0 room f t h in
    rw c.push.ensures parts.kept

pub returns-then-high-low-clause-acyclic : goal.returns-then-high-low-clause-acyclic
returns-then-high-low-clause-acyclic g c =
    let i = c.self.inside in
    let p = c.self.invariant in
    let o : OrderView = record { nodes = i.edges.nodes; max_edges = i.edges.limit; edges = i.edges.list; order = i.order.items; cycle = i.cycle.items } in
    let view : ◌≡◌ {A = OrderView} o c.args.self.now = c.self.view_is in
    let nodes = ap (λ (v : OrderView). v.nodes) view in
    let f : c.args.from < i.edges.nodes = omega (arith, nodes, c.requires.from) in
    let t : c.args.to < i.edges.nodes = omega (arith, nodes, c.requires.to) in
    let low = read_place o i.places.items i.seen.items c.args.to c.index-low.result.now p.0 t c.index-low.ensures in
    let high = read_place o i.places.items i.seen.items c.args.from c.index-high.result.now p.0 f c.index-high.ensures in
    let room : length i.edges.list < i.edges.limit = omega (arith, ap (λ (v : OrderView). length v.edges) view, ap (λ (v : OrderView). v.max_edges) view, c.requires.room) in
    let h : slice_index i.places.items c.args.from < slice_index i.places.items c.args.to = omega (arith, low, high, c.if-high-low.true) in
    let parts = parts_forward i.edges.nodes i.edges.limit c.args.from c.args.to i.edges.list i.order.items i.places.items i.cycle.items i.seen.items p.0 room f t h in
    rw c.push.ensures (kept_acyclic _ parts.kept)

pub search-requires-clause-forward : goal.search-requires-clause-forward
search-requires-clause-forward g c =
    let i = c.self.inside in
    let p = c.self.invariant in
    let o : OrderView = record { nodes = i.edges.nodes; max_edges = i.edges.limit; edges = i.edges.list; order = i.order.items; cycle = i.cycle.items } in
    let view : ◌≡◌ {A = OrderView} o c.args.self.now = c.self.view_is in
    let nodes = ap (λ (v : OrderView). v.nodes) view in
    let f : c.args.from < i.edges.nodes = omega (arith, nodes, c.requires.from) in
    let t : c.args.to < i.edges.nodes = omega (arith, nodes, c.requires.to) in
    let low = read_place o i.places.items i.seen.items c.args.to c.index-low.result.now p.0 t c.index-low.ensures in
    let high = read_place o i.places.items i.seen.items c.args.from c.index-high.result.now p.0 f c.index-high.ensures in
    rw c.deref.ensures.value (places_forward o i.places.items p.0.kept p.0.placed)

pub trace-requires-clause-start : goal.trace-requires-clause-start
trace-requires-clause-start g c =
    let s = c.in-Some.ensures.some in
    rw c.deref-in-Some.ensures.value (slice_get_within c.search.new.visits.items c.in-Some.at s.0 s.1)

pub forget-requires : goal.forget-requires
forget-requires g c =
    let i = c.self.inside in
    let p = c.self.invariant in
    let o : OrderView = record { nodes = i.edges.nodes; max_edges = i.edges.limit; edges = i.edges.list; order = i.order.items; cycle = i.cycle.items } in
    let view : ◌≡◌ {A = OrderView} o c.args.self.now = c.self.view_is in
    let nodes = ap (λ (v : OrderView). v.nodes) view in
    let f : c.args.from < i.edges.nodes = omega (arith, nodes, c.requires.from) in
    let t : c.args.to < i.edges.nodes = omega (arith, nodes, c.requires.to) in
    let low = read_place o i.places.items i.seen.items c.args.to c.index-low.result.now p.0 t c.index-low.ensures in
    let high = read_place o i.places.items i.seen.items c.args.from c.index-high.result.now p.0 f c.index-high.ensures in
    let h : slice_index i.places.items c.args.to ≤ slice_index i.places.items c.args.from = omega (arith, low, high, c.if-high-low.false) in
    let seen_ok = i.seen.ok.0 in
    let s_value = ap (λ (z : List Bool). length z) c.deref_mut.ensures.value in
    let s_long : length c.search.new.seen ≡ length i.seen.items = omega (arith, c.search.auto.seen, s_value) in
    let e1 = written_back i.seen.len c.search.new.seen i.seen.items s_long (omega arith) in
    let r_long : length c.search.new.seen ≡ i.edges.nodes = omega (arith, s_long, p.0.seen_long) in
    let visits = subst (λ (z : List ℕ). AreVisits i.edges.list z (slice_index z c.args.to) c.args.from c.search.new.visits.items c.search.new.seen) c.deref.ensures.value c.in-Some.ensures.visits in
    rw (c.deref-in-Some-2.ensures.value, c.deref_mut-in-Some.ensures.value, e1) (record { within = λ k v e. (visits.within k v e).0 })

pub overflow_cast-result : goal.overflow_cast-result
overflow_cast-result g c =
    let i = c.self.inside in
    let p = c.self.invariant in
    let o : OrderView = record { nodes = i.edges.nodes; max_edges = i.edges.limit; edges = i.edges.list; order = i.order.items; cycle = i.cycle.items } in
    let view : ◌≡◌ {A = OrderView} o c.args.self.now = c.self.view_is in
    let nodes = ap (λ (v : OrderView). v.nodes) view in
    let f : c.args.from < i.edges.nodes = omega (arith, nodes, c.requires.from) in
    let t : c.args.to < i.edges.nodes = omega (arith, nodes, c.requires.to) in
    let low = read_place o i.places.items i.seen.items c.args.to c.index-low.result.now p.0 t c.index-low.ensures in
    let high = read_place o i.places.items i.seen.items c.args.from c.index-high.result.now p.0 f c.index-high.ensures in
    let h : slice_index i.places.items c.args.to ≤ slice_index i.places.items c.args.from = omega (arith, low, high, c.if-high-low.false) in
    let seen_ok = i.seen.ok.0 in
    let s_value = ap (λ (z : List Bool). length z) c.deref_mut.ensures.value in
    let s_long : length c.search.new.seen ≡ length i.seen.items = omega (arith, c.search.auto.seen, s_value) in
    let e1 = written_back i.seen.len c.search.new.seen i.seen.items s_long (omega arith) in
    let r_long : length c.search.new.seen ≡ i.edges.nodes = omega (arith, s_long, p.0.seen_long) in
    let visits = subst (λ (z : List ℕ). AreVisits i.edges.list z (slice_index z c.args.to) c.args.from c.search.new.visits.items c.search.new.seen) c.deref.ensures.value c.in-Some.ensures.visits in
    let s = c.in-Some.ensures.some in
    let at = slice_get_within c.search.new.visits.items c.in-Some.at s.0 s.1 in
    let few = visits_few i.edges.list i.places.items (slice_index i.places.items c.args.to) c.args.from c.search.new.visits.items c.search.new.seen visits in
    let long = c.trace.new.nodes.ok.0 in
    omega (arith, c.trace.ensures.trace.short, at, few, r_long, p.0.small, c.len.ensures)

pub invariant_of-self-in-Some : goal.invariant_of-self-in-Some
invariant_of-self-in-Some g c =
    let i = c.self.inside in
    let p = c.self.invariant in
    let o : OrderView = record { nodes = i.edges.nodes; max_edges = i.edges.limit; edges = i.edges.list; order = i.order.items; cycle = i.cycle.items } in
    let view : ◌≡◌ {A = OrderView} o c.args.self.now = c.self.view_is in
    let nodes = ap (λ (v : OrderView). v.nodes) view in
    let f : c.args.from < i.edges.nodes = omega (arith, nodes, c.requires.from) in
    let t : c.args.to < i.edges.nodes = omega (arith, nodes, c.requires.to) in
    let low = read_place o i.places.items i.seen.items c.args.to c.index-low.result.now p.0 t c.index-low.ensures in
    let high = read_place o i.places.items i.seen.items c.args.from c.index-high.result.now p.0 f c.index-high.ensures in
    let h : slice_index i.places.items c.args.to ≤ slice_index i.places.items c.args.from = omega (arith, low, high, c.if-high-low.false) in
    let seen_ok = i.seen.ok.0 in
    let s_value = ap (λ (z : List Bool). length z) c.deref_mut.ensures.value in
    let s_long : length c.search.new.seen ≡ length i.seen.items = omega (arith, c.search.auto.seen, s_value) in
    let e1 = written_back i.seen.len c.search.new.seen i.seen.items s_long (omega arith) in
    let r_long : length c.search.new.seen ≡ i.edges.nodes = omega (arith, s_long, p.0.seen_long) in
    let visits = subst (λ (z : List ℕ). AreVisits i.edges.list z (slice_index z c.args.to) c.args.from c.search.new.visits.items c.search.new.seen) c.deref.ensures.value c.in-Some.ensures.visits in
    let before_forget : c.deref_mut-in-Some.result.now ≡ c.search.new.seen = c.deref_mut-in-Some.ensures.value ∙ e1 in
    let v_value = c.deref-in-Some-2.ensures.value in
    let f_length = ap (λ (z : List Bool). length z) before_forget in
    let f_long : length c.forget.new.seen ≡ length c.search.new.seen = omega (arith, c.forget.auto.seen, f_length) in
    let e2 = written_back i.seen.len c.forget.new.seen c.search.new.seen f_long (omega (arith, s_long)) in
    let gone = forgotten i.edges.list i.places.items (slice_index i.places.items c.args.to) c.args.from c.search.new.visits.items c.search.new.seen c.forget.new.seen visits (λ n e.
    let l = c.forget.ensures.left n e in (sym (ap (λ (z : List Bool). is_seen z n) before_forget) ∙ l.0, λ k v b. l.1 k v (ap (λ (z : List Visit). slice_get z k) v_value ∙ b))) in
    rw (e1, e2) (
      parts_closed i.edges.nodes i.edges.limit i.edges.list i.order.items i.places.items i.cycle.items c.trace.new.nodes.items i.seen.items c.forget.new.seen p.0 (omega (arith, f_long, s_long)) gone,
      omega (arith, p.1, c.in-Some.ensures.capacity),
      p.2,
      omega (arith, p.3, c.trace.ensures.capacity),
    )

pub returns-in-Some-clause-acyclic : goal.returns-in-Some-clause-acyclic
returns-in-Some-clause-acyclic g c =
    kept_acyclic _ c.self.invariant.0.kept

pub returns-in-Some-clause-some : goal.returns-in-Some-clause-some
returns-in-Some-clause-some g c =
    let i = c.self.inside in
    let p = c.self.invariant in
    let o : OrderView = record { nodes = i.edges.nodes; max_edges = i.edges.limit; edges = i.edges.list; order = i.order.items; cycle = i.cycle.items } in
    let view : ◌≡◌ {A = OrderView} o c.args.self.now = c.self.view_is in
    let nodes = ap (λ (v : OrderView). v.nodes) view in
    let f : c.args.from < i.edges.nodes = omega (arith, nodes, c.requires.from) in
    let t : c.args.to < i.edges.nodes = omega (arith, nodes, c.requires.to) in
    let low = read_place o i.places.items i.seen.items c.args.to c.index-low.result.now p.0 t c.index-low.ensures in
    let high = read_place o i.places.items i.seen.items c.args.from c.index-high.result.now p.0 f c.index-high.ensures in
    let h : slice_index i.places.items c.args.to ≤ slice_index i.places.items c.args.from = omega (arith, low, high, c.if-high-low.false) in
    let seen_ok = i.seen.ok.0 in
    let s_value = ap (λ (z : List Bool). length z) c.deref_mut.ensures.value in
    let s_long : length c.search.new.seen ≡ length i.seen.items = omega (arith, c.search.auto.seen, s_value) in
    let e1 = written_back i.seen.len c.search.new.seen i.seen.items s_long (omega arith) in
    let r_long : length c.search.new.seen ≡ i.edges.nodes = omega (arith, s_long, p.0.seen_long) in
    let visits = subst (λ (z : List ℕ). AreVisits i.edges.list z (slice_index z c.args.to) c.args.from c.search.new.visits.items c.search.new.seen) c.deref.ensures.value c.in-Some.ensures.visits in
    let way = subst (λ (z : List Visit). IsTrace z c.in-Some.at 0 c.trace.new.nodes.items) c.deref-in-Some.ensures.value c.trace.ensures.trace in
    let closed = trace_closed i.edges.list i.places.items (slice_index i.places.items c.args.to) c.args.from c.args.to c.in-Some.at c.search.new.visits.items c.search.new.seen c.trace.new.nodes.items visits c.in-Some.ensures.some way in
    let edges = ap (λ (v : OrderView). v.edges) view in
    let long = c.trace.new.nodes.ok.0 in
    let now = subst (λ (z : List (ℕ × ℕ)). IsClosed z c.args.from c.args.to c.trace.new.nodes.items) edges closed in (
      edges,
      ap (λ (v : OrderView). v.order) view,
      omega (arith, c.len.ensures),
      now,
      closed_cycle c.args.self.now.edges c.args.from c.args.to c.trace.new.nodes.items now,
    )

pub returns-in-Some-clause-forward : goal.returns-in-Some-clause-forward
returns-in-Some-clause-forward g c =
    let i = c.self.inside in
    let p = c.self.invariant in
    let o : OrderView = record { nodes = i.edges.nodes; max_edges = i.edges.limit; edges = i.edges.list; order = i.order.items; cycle = i.cycle.items } in
    let view : ◌≡◌ {A = OrderView} o c.args.self.now = c.self.view_is in
    let nodes = ap (λ (v : OrderView). v.nodes) view in
    let f : c.args.from < i.edges.nodes = omega (arith, nodes, c.requires.from) in
    let t : c.args.to < i.edges.nodes = omega (arith, nodes, c.requires.to) in
    let low = read_place o i.places.items i.seen.items c.args.to c.index-low.result.now p.0 t c.index-low.ensures in
    let high = read_place o i.places.items i.seen.items c.args.from c.index-high.result.now p.0 f c.index-high.ensures in
    let h : slice_index i.places.items c.args.to ≤ slice_index i.places.items c.args.from = omega (arith, low, high, c.if-high-low.false) in
    λ a b x y l. absurd (never_forward o i.places.items c.args.from c.args.to p.0.placed h c.args.self.now view a b x y l)

pub returns-in-Some-clause-back : goal.returns-in-Some-clause-back
returns-in-Some-clause-back g c =
    let i = c.self.inside in
    let p = c.self.invariant in
    let o : OrderView = record { nodes = i.edges.nodes; max_edges = i.edges.limit; edges = i.edges.list; order = i.order.items; cycle = i.cycle.items } in
    let view : ◌≡◌ {A = OrderView} o c.args.self.now = c.self.view_is in
    let nodes = ap (λ (v : OrderView). v.nodes) view in
    let f : c.args.from < i.edges.nodes = omega (arith, nodes, c.requires.from) in
    let t : c.args.to < i.edges.nodes = omega (arith, nodes, c.requires.to) in
    let low = read_place o i.places.items i.seen.items c.args.to c.index-low.result.now p.0 t c.index-low.ensures in
    let high = read_place o i.places.items i.seen.items c.args.from c.index-high.result.now p.0 f c.index-high.ensures in
    let h : slice_index i.places.items c.args.to ≤ slice_index i.places.items c.args.from = omega (arith, low, high, c.if-high-low.false) in
    let seen_ok = i.seen.ok.0 in
    let s_value = ap (λ (z : List Bool). length z) c.deref_mut.ensures.value in
    let s_long : length c.search.new.seen ≡ length i.seen.items = omega (arith, c.search.auto.seen, s_value) in
    let e1 = written_back i.seen.len c.search.new.seen i.seen.items s_long (omega arith) in
    let r_long : length c.search.new.seen ≡ i.edges.nodes = omega (arith, s_long, p.0.seen_long) in
    let visits = subst (λ (z : List ℕ). AreVisits i.edges.list z (slice_index z c.args.to) c.args.from c.search.new.visits.items c.search.new.seen) c.deref.ensures.value c.in-Some.ensures.visits in
    let before_forget : c.deref_mut-in-Some.result.now ≡ c.search.new.seen = c.deref_mut-in-Some.ensures.value ∙ e1 in
    let v_value = c.deref-in-Some-2.ensures.value in
    let f_length = ap (λ (z : List Bool). length z) before_forget in
    let f_long : length c.forget.new.seen ≡ length c.search.new.seen = omega (arith, c.forget.auto.seen, f_length) in
    let e2 = written_back i.seen.len c.forget.new.seen c.search.new.seen f_long (omega (arith, s_long)) in
    let s = c.in-Some.ensures.some in
    let at = slice_get_within c.search.new.visits.items c.in-Some.at s.0 s.1 in
    let v_length = ap (λ (z : List Visit). length z) v_value in
    let cost = closed_cost o i.places.items i.seen.items c.args.from c.args.to c.in-Some.at c.search.new.visits.items c.search.new.seen c.args.steps.now c.search.new.steps c.trace.new.steps c.forget.new.steps (length c.trace.new.nodes.items) p.0 f h r_long visits at c.trace.ensures.trace.short (omega (arith, c.search.ensures.steps, c.tick.ensures)) c.trace.ensures.steps (omega (arith, c.forget.ensures.steps, v_length)) in
    cost_at o i.places.items c.args.from c.args.to c.forget.new.steps c.args.steps.now p.0.placed cost c.args.self.now view

pub shift-requires-clause-within : goal.shift-requires-clause-within
shift-requires-clause-within g c =
    let i = c.self.inside in
    let p = c.self.invariant in
    let o : OrderView = record { nodes = i.edges.nodes; max_edges = i.edges.limit; edges = i.edges.list; order = i.order.items; cycle = i.cycle.items } in
    let view : ◌≡◌ {A = OrderView} o c.args.self.now = c.self.view_is in
    let nodes = ap (λ (v : OrderView). v.nodes) view in
    let f : c.args.from < i.edges.nodes = omega (arith, nodes, c.requires.from) in
    let t : c.args.to < i.edges.nodes = omega (arith, nodes, c.requires.to) in
    let low = read_place o i.places.items i.seen.items c.args.to c.index-low.result.now p.0 t c.index-low.ensures in
    let high = read_place o i.places.items i.seen.items c.args.from c.index-high.result.now p.0 f c.index-high.ensures in
    let h : slice_index i.places.items c.args.to ≤ slice_index i.places.items c.args.from = omega (arith, low, high, c.if-high-low.false) in
    let within = place_within o i.places.items c.args.from p.0.kept p.0.placed f in
    rw c.deref_mut-2.ensures.value (omega (arith, high, within, p.0.kept.count))

pub invariant_of-self-2 : goal.invariant_of-self-2
invariant_of-self-2 g c =
    let i = c.self.inside in
    let p = c.self.invariant in
    let o : OrderView = record { nodes = i.edges.nodes; max_edges = i.edges.limit; edges = i.edges.list; order = i.order.items; cycle = i.cycle.items } in
    let view : ◌≡◌ {A = OrderView} o c.args.self.now = c.self.view_is in
    let nodes = ap (λ (v : OrderView). v.nodes) view in
    let f : c.args.from < i.edges.nodes = omega (arith, nodes, c.requires.from) in
    let t : c.args.to < i.edges.nodes = omega (arith, nodes, c.requires.to) in
    let low = read_place o i.places.items i.seen.items c.args.to c.index-low.result.now p.0 t c.index-low.ensures in
    let high = read_place o i.places.items i.seen.items c.args.from c.index-high.result.now p.0 f c.index-high.ensures in
    let h : slice_index i.places.items c.args.to ≤ slice_index i.places.items c.args.from = omega (arith, low, high, c.if-high-low.false) in
    let seen_ok = i.seen.ok.0 in
    let s_value = ap (λ (z : List Bool). length z) c.deref_mut.ensures.value in
    let s_long : length c.search.new.seen ≡ length i.seen.items = omega (arith, c.search.auto.seen, s_value) in
    let e1 = written_back i.seen.len c.search.new.seen i.seen.items s_long (omega arith) in
    let r_long : length c.search.new.seen ≡ i.edges.nodes = omega (arith, s_long, p.0.seen_long) in
    let visits = subst (λ (z : List ℕ). AreVisits i.edges.list z (slice_index z c.args.to) c.args.from c.search.new.visits.items c.search.new.seen) c.deref.ensures.value c.in_default.ensures.visits in
    let none : c.search.result ≡ None = c.in_default.is in
    let closed_now = subst (λ (r : Option ℕ). IfNone r ((y : ℕ) → is_seen c.search.new.seen y ≡ true → IsClosedAt i.edges.list c.deref.result.now (slice_index c.deref.result.now c.args.to) c.search.new.seen y)) none c.search.ensures.closed in
    let closed = subst (λ (z : List ℕ). (y : ℕ) → is_seen c.search.new.seen y ≡ true → IsClosedAt i.edges.list z (slice_index z c.args.to) c.search.new.seen y) c.deref.ensures.value closed_now in
    let apart = subst (λ (r : Option ℕ). IfNone r (is_seen c.search.new.seen c.args.to ≡ false)) none c.search.ensures.apart in
    let order_value = c.deref_mut-2.ensures.value in
    let places_value = c.deref_mut-3.ensures.value in
    let seen_value : c.deref_mut-4.result.now ≡ c.search.new.seen = c.deref_mut-4.ensures.value ∙ e1 in
    let order_is = rw (seen_value, order_value, low, high) at c.shift.ensures.order in
    let inside = rw (order_value, low, high) at c.shift.ensures.inside in
    let outside = rw seen_value at c.shift.ensures.outside in
    let seen_length = ap (λ (z : List Bool). length z) seen_value in
    let order_length = ap (λ (z : List ℕ). length z) order_value in
    let places_length = ap (λ (z : List ℕ). length z) places_value in
    let n_long : length c.shift.new.seen ≡ i.edges.nodes = omega (arith, c.shift.auto.seen, seen_length, r_long) in
    let order_ok = i.order.ok.0 in
    let places_ok = i.places.ok.0 in
    let w_order = written_back i.order.len c.shift.new.order i.order.items (omega (arith, c.shift.auto.order, order_length)) (omega arith) in
    let w_places = written_back i.places.len c.shift.new.places i.places.items (omega (arith, c.shift.auto.places, places_length)) (omega arith) in
    let w_seen = written_back i.seen.len c.shift.new.seen c.search.new.seen (omega (arith, n_long, r_long)) (omega (arith, s_long)) in
    let room : length i.edges.list < i.edges.limit = omega (arith, ap (λ (v : OrderView). length v.edges) view, ap (λ (v : OrderView). v.max_edges) view, c.requires.room) in
    let parts = parts_moved i.edges.nodes i.edges.limit c.args.from c.args.to i.edges.list i.order.items i.places.items i.cycle.items i.seen.items c.search.new.visits.items c.search.new.seen c.shift.new.seen c.shift.new.order c.shift.new.places p.0 room f t h visits closed apart r_long n_long order_is c.shift.ensures.placed inside outside in
    rw (c.push-2.ensures, w_order, w_places, e1, w_seen) (
      parts,
      omega (arith, p.1, c.search.ensures.capacity),
      omega (arith, p.2, c.shift.ensures.capacity),
      p.3,
    )

pub returns-clause-kept : goal.returns-clause-kept
returns-clause-kept g c =
    let i = c.self.inside in
    let p = c.self.invariant in
    let o : OrderView = record { nodes = i.edges.nodes; max_edges = i.edges.limit; edges = i.edges.list; order = i.order.items; cycle = i.cycle.items } in
    let view : ◌≡◌ {A = OrderView} o c.args.self.now = c.self.view_is in
    let nodes = ap (λ (v : OrderView). v.nodes) view in
    let f : c.args.from < i.edges.nodes = omega (arith, nodes, c.requires.from) in
    let t : c.args.to < i.edges.nodes = omega (arith, nodes, c.requires.to) in
    let low = read_place o i.places.items i.seen.items c.args.to c.index-low.result.now p.0 t c.index-low.ensures in
    let high = read_place o i.places.items i.seen.items c.args.from c.index-high.result.now p.0 f c.index-high.ensures in
    let h : slice_index i.places.items c.args.to ≤ slice_index i.places.items c.args.from = omega (arith, low, high, c.if-high-low.false) in
    let seen_ok = i.seen.ok.0 in
    let s_value = ap (λ (z : List Bool). length z) c.deref_mut.ensures.value in
    let s_long : length c.search.new.seen ≡ length i.seen.items = omega (arith, c.search.auto.seen, s_value) in
    let e1 = written_back i.seen.len c.search.new.seen i.seen.items s_long (omega arith) in
    let r_long : length c.search.new.seen ≡ i.edges.nodes = omega (arith, s_long, p.0.seen_long) in
    let visits = subst (λ (z : List ℕ). AreVisits i.edges.list z (slice_index z c.args.to) c.args.from c.search.new.visits.items c.search.new.seen) c.deref.ensures.value c.in_default.ensures.visits in
    let none : c.search.result ≡ None = c.in_default.is in
    let closed_now = subst (λ (r : Option ℕ). IfNone r ((y : ℕ) → is_seen c.search.new.seen y ≡ true → IsClosedAt i.edges.list c.deref.result.now (slice_index c.deref.result.now c.args.to) c.search.new.seen y)) none c.search.ensures.closed in
    let closed = subst (λ (z : List ℕ). (y : ℕ) → is_seen c.search.new.seen y ≡ true → IsClosedAt i.edges.list z (slice_index z c.args.to) c.search.new.seen y) c.deref.ensures.value closed_now in
    let apart = subst (λ (r : Option ℕ). IfNone r (is_seen c.search.new.seen c.args.to ≡ false)) none c.search.ensures.apart in
    let order_value = c.deref_mut-2.ensures.value in
    let places_value = c.deref_mut-3.ensures.value in
    let seen_value : c.deref_mut-4.result.now ≡ c.search.new.seen = c.deref_mut-4.ensures.value ∙ e1 in
    let order_is = rw (seen_value, order_value, low, high) at c.shift.ensures.order in
    let inside = rw (order_value, low, high) at c.shift.ensures.inside in
    let outside = rw seen_value at c.shift.ensures.outside in
    let seen_length = ap (λ (z : List Bool). length z) seen_value in
    let order_length = ap (λ (z : List ℕ). length z) order_value in
    let places_length = ap (λ (z : List ℕ). length z) places_value in
    let n_long : length c.shift.new.seen ≡ i.edges.nodes = omega (arith, c.shift.auto.seen, seen_length, r_long) in
    let order_ok = i.order.ok.0 in
    let places_ok = i.places.ok.0 in
    let w_order = written_back i.order.len c.shift.new.order i.order.items (omega (arith, c.shift.auto.order, order_length)) (omega arith) in
    let w_places = written_back i.places.len c.shift.new.places i.places.items (omega (arith, c.shift.auto.places, places_length)) (omega arith) in
    let w_seen = written_back i.seen.len c.shift.new.seen c.search.new.seen (omega (arith, n_long, r_long)) (omega (arith, s_long)) in
    let room : length i.edges.list < i.edges.limit = omega (arith, ap (λ (v : OrderView). length v.edges) view, ap (λ (v : OrderView). v.max_edges) view, c.requires.room) in
    let parts = parts_moved i.edges.nodes i.edges.limit c.args.from c.args.to i.edges.list i.order.items i.places.items i.cycle.items i.seen.items c.search.new.visits.items c.search.new.seen c.shift.new.seen c.shift.new.order c.shift.new.places p.0 room f t h visits closed apart r_long n_long order_is c.shift.ensures.placed inside outside in
    rw (c.push-2.ensures, w_order) parts.kept

pub returns-clause-acyclic : goal.returns-clause-acyclic
returns-clause-acyclic g c =
    let i = c.self.inside in
    let p = c.self.invariant in
    let o : OrderView = record { nodes = i.edges.nodes; max_edges = i.edges.limit; edges = i.edges.list; order = i.order.items; cycle = i.cycle.items } in
    let view : ◌≡◌ {A = OrderView} o c.args.self.now = c.self.view_is in
    let nodes = ap (λ (v : OrderView). v.nodes) view in
    let f : c.args.from < i.edges.nodes = omega (arith, nodes, c.requires.from) in
    let t : c.args.to < i.edges.nodes = omega (arith, nodes, c.requires.to) in
    let low = read_place o i.places.items i.seen.items c.args.to c.index-low.result.now p.0 t c.index-low.ensures in
    let high = read_place o i.places.items i.seen.items c.args.from c.index-high.result.now p.0 f c.index-high.ensures in
    let h : slice_index i.places.items c.args.to ≤ slice_index i.places.items c.args.from = omega (arith, low, high, c.if-high-low.false) in
    let seen_ok = i.seen.ok.0 in
    let s_value = ap (λ (z : List Bool). length z) c.deref_mut.ensures.value in
    let s_long : length c.search.new.seen ≡ length i.seen.items = omega (arith, c.search.auto.seen, s_value) in
    let e1 = written_back i.seen.len c.search.new.seen i.seen.items s_long (omega arith) in
    let r_long : length c.search.new.seen ≡ i.edges.nodes = omega (arith, s_long, p.0.seen_long) in
    let visits = subst (λ (z : List ℕ). AreVisits i.edges.list z (slice_index z c.args.to) c.args.from c.search.new.visits.items c.search.new.seen) c.deref.ensures.value c.in_default.ensures.visits in
    let none : c.search.result ≡ None = c.in_default.is in
    let closed_now = subst (λ (r : Option ℕ). IfNone r ((y : ℕ) → is_seen c.search.new.seen y ≡ true → IsClosedAt i.edges.list c.deref.result.now (slice_index c.deref.result.now c.args.to) c.search.new.seen y)) none c.search.ensures.closed in
    let closed = subst (λ (z : List ℕ). (y : ℕ) → is_seen c.search.new.seen y ≡ true → IsClosedAt i.edges.list z (slice_index z c.args.to) c.search.new.seen y) c.deref.ensures.value closed_now in
    let apart = subst (λ (r : Option ℕ). IfNone r (is_seen c.search.new.seen c.args.to ≡ false)) none c.search.ensures.apart in
    let order_value = c.deref_mut-2.ensures.value in
    let places_value = c.deref_mut-3.ensures.value in
    let seen_value : c.deref_mut-4.result.now ≡ c.search.new.seen = c.deref_mut-4.ensures.value ∙ e1 in
    let order_is = rw (seen_value, order_value, low, high) at c.shift.ensures.order in
    let inside = rw (order_value, low, high) at c.shift.ensures.inside in
    let outside = rw seen_value at c.shift.ensures.outside in
    let seen_length = ap (λ (z : List Bool). length z) seen_value in
    let order_length = ap (λ (z : List ℕ). length z) order_value in
    let places_length = ap (λ (z : List ℕ). length z) places_value in
    let n_long : length c.shift.new.seen ≡ i.edges.nodes = omega (arith, c.shift.auto.seen, seen_length, r_long) in
    let order_ok = i.order.ok.0 in
    let places_ok = i.places.ok.0 in
    let w_order = written_back i.order.len c.shift.new.order i.order.items (omega (arith, c.shift.auto.order, order_length)) (omega arith) in
    let w_places = written_back i.places.len c.shift.new.places i.places.items (omega (arith, c.shift.auto.places, places_length)) (omega arith) in
    let w_seen = written_back i.seen.len c.shift.new.seen c.search.new.seen (omega (arith, n_long, r_long)) (omega (arith, s_long)) in
    let room : length i.edges.list < i.edges.limit = omega (arith, ap (λ (v : OrderView). length v.edges) view, ap (λ (v : OrderView). v.max_edges) view, c.requires.room) in
    let parts = parts_moved i.edges.nodes i.edges.limit c.args.from c.args.to i.edges.list i.order.items i.places.items i.cycle.items i.seen.items c.search.new.visits.items c.search.new.seen c.shift.new.seen c.shift.new.order c.shift.new.places p.0 room f t h visits closed apart r_long n_long order_is c.shift.ensures.placed inside outside in
    rw c.push-2.ensures (kept_acyclic _ parts.kept)

pub returns-clause-forward : goal.returns-clause-forward
returns-clause-forward g c =
    let i = c.self.inside in
    let p = c.self.invariant in
    let o : OrderView = record { nodes = i.edges.nodes; max_edges = i.edges.limit; edges = i.edges.list; order = i.order.items; cycle = i.cycle.items } in
    let view : ◌≡◌ {A = OrderView} o c.args.self.now = c.self.view_is in
    let nodes = ap (λ (v : OrderView). v.nodes) view in
    let f : c.args.from < i.edges.nodes = omega (arith, nodes, c.requires.from) in
    let t : c.args.to < i.edges.nodes = omega (arith, nodes, c.requires.to) in
    let low = read_place o i.places.items i.seen.items c.args.to c.index-low.result.now p.0 t c.index-low.ensures in
    let high = read_place o i.places.items i.seen.items c.args.from c.index-high.result.now p.0 f c.index-high.ensures in
    let h : slice_index i.places.items c.args.to ≤ slice_index i.places.items c.args.from = omega (arith, low, high, c.if-high-low.false) in
    λ a b x y l. absurd (never_forward o i.places.items c.args.from c.args.to p.0.placed h c.args.self.now view a b x y l)

pub returns-clause-back : goal.returns-clause-back
returns-clause-back g c =
    let i = c.self.inside in
    let p = c.self.invariant in
    let o : OrderView = record { nodes = i.edges.nodes; max_edges = i.edges.limit; edges = i.edges.list; order = i.order.items; cycle = i.cycle.items } in
    let view : ◌≡◌ {A = OrderView} o c.args.self.now = c.self.view_is in
    let nodes = ap (λ (v : OrderView). v.nodes) view in
    let f : c.args.from < i.edges.nodes = omega (arith, nodes, c.requires.from) in
    let t : c.args.to < i.edges.nodes = omega (arith, nodes, c.requires.to) in
    let low = read_place o i.places.items i.seen.items c.args.to c.index-low.result.now p.0 t c.index-low.ensures in
    let high = read_place o i.places.items i.seen.items c.args.from c.index-high.result.now p.0 f c.index-high.ensures in
    let h : slice_index i.places.items c.args.to ≤ slice_index i.places.items c.args.from = omega (arith, low, high, c.if-high-low.false) in
    let seen_ok = i.seen.ok.0 in
    let s_value = ap (λ (z : List Bool). length z) c.deref_mut.ensures.value in
    let s_long : length c.search.new.seen ≡ length i.seen.items = omega (arith, c.search.auto.seen, s_value) in
    let e1 = written_back i.seen.len c.search.new.seen i.seen.items s_long (omega arith) in
    let r_long : length c.search.new.seen ≡ i.edges.nodes = omega (arith, s_long, p.0.seen_long) in
    let visits = subst (λ (z : List ℕ). AreVisits i.edges.list z (slice_index z c.args.to) c.args.from c.search.new.visits.items c.search.new.seen) c.deref.ensures.value c.in_default.ensures.visits in
    let none : c.search.result ≡ None = c.in_default.is in
    let closed_now = subst (λ (r : Option ℕ). IfNone r ((y : ℕ) → is_seen c.search.new.seen y ≡ true → IsClosedAt i.edges.list c.deref.result.now (slice_index c.deref.result.now c.args.to) c.search.new.seen y)) none c.search.ensures.closed in
    let closed = subst (λ (z : List ℕ). (y : ℕ) → is_seen c.search.new.seen y ≡ true → IsClosedAt i.edges.list z (slice_index z c.args.to) c.search.new.seen y) c.deref.ensures.value closed_now in
    let apart = subst (λ (r : Option ℕ). IfNone r (is_seen c.search.new.seen c.args.to ≡ false)) none c.search.ensures.apart in
    let order_value = c.deref_mut-2.ensures.value in
    let places_value = c.deref_mut-3.ensures.value in
    let seen_value : c.deref_mut-4.result.now ≡ c.search.new.seen = c.deref_mut-4.ensures.value ∙ e1 in
    let order_is = rw (seen_value, order_value, low, high) at c.shift.ensures.order in
    let inside = rw (order_value, low, high) at c.shift.ensures.inside in
    let outside = rw seen_value at c.shift.ensures.outside in
    let seen_length = ap (λ (z : List Bool). length z) seen_value in
    let order_length = ap (λ (z : List ℕ). length z) order_value in
    let places_length = ap (λ (z : List ℕ). length z) places_value in
    let n_long : length c.shift.new.seen ≡ i.edges.nodes = omega (arith, c.shift.auto.seen, seen_length, r_long) in
    let order_ok = i.order.ok.0 in
    let places_ok = i.places.ok.0 in
    let w_order = written_back i.order.len c.shift.new.order i.order.items (omega (arith, c.shift.auto.order, order_length)) (omega arith) in
    let w_places = written_back i.places.len c.shift.new.places i.places.items (omega (arith, c.shift.auto.places, places_length)) (omega arith) in
    let w_seen = written_back i.seen.len c.shift.new.seen c.search.new.seen (omega (arith, n_long, r_long)) (omega (arith, s_long)) in
    let room : length i.edges.list < i.edges.limit = omega (arith, ap (λ (v : OrderView). length v.edges) view, ap (λ (v : OrderView). v.max_edges) view, c.requires.room) in
    let parts = parts_moved i.edges.nodes i.edges.limit c.args.from c.args.to i.edges.list i.order.items i.places.items i.cycle.items i.seen.items c.search.new.visits.items c.search.new.seen c.shift.new.seen c.shift.new.order c.shift.new.places p.0 room f t h visits closed apart r_long n_long order_is c.shift.ensures.placed inside outside in
    let shifted = rw (seen_value, order_value, low, high) at c.shift.ensures.steps in
    let cost = moved_cost o i.places.items i.seen.items c.args.from c.args.to c.search.new.visits.items c.search.new.seen c.args.steps.now c.search.new.steps c.shift.new.steps p.0 f h r_long visits (omega (arith, c.search.ensures.steps, c.tick.ensures)) shifted in
    cost_at o i.places.items c.args.from c.args.to c.shift.new.steps c.args.steps.now p.0.placed cost c.args.self.now view

pub returns-clause-near : goal.returns-clause-near
returns-clause-near g c =
    let i = c.self.inside in
    let p = c.self.invariant in
    let o : OrderView = record { nodes = i.edges.nodes; max_edges = i.edges.limit; edges = i.edges.list; order = i.order.items; cycle = i.cycle.items } in
    let view : ◌≡◌ {A = OrderView} o c.args.self.now = c.self.view_is in
    let nodes = ap (λ (v : OrderView). v.nodes) view in
    let f : c.args.from < i.edges.nodes = omega (arith, nodes, c.requires.from) in
    let t : c.args.to < i.edges.nodes = omega (arith, nodes, c.requires.to) in
    let low = read_place o i.places.items i.seen.items c.args.to c.index-low.result.now p.0 t c.index-low.ensures in
    let high = read_place o i.places.items i.seen.items c.args.from c.index-high.result.now p.0 f c.index-high.ensures in
    let h : slice_index i.places.items c.args.to ≤ slice_index i.places.items c.args.from = omega (arith, low, high, c.if-high-low.false) in
    let seen_ok = i.seen.ok.0 in
    let s_value = ap (λ (z : List Bool). length z) c.deref_mut.ensures.value in
    let s_long : length c.search.new.seen ≡ length i.seen.items = omega (arith, c.search.auto.seen, s_value) in
    let e1 = written_back i.seen.len c.search.new.seen i.seen.items s_long (omega arith) in
    let r_long : length c.search.new.seen ≡ i.edges.nodes = omega (arith, s_long, p.0.seen_long) in
    let visits = subst (λ (z : List ℕ). AreVisits i.edges.list z (slice_index z c.args.to) c.args.from c.search.new.visits.items c.search.new.seen) c.deref.ensures.value c.in_default.ensures.visits in
    let none : c.search.result ≡ None = c.in_default.is in
    let closed_now = subst (λ (r : Option ℕ). IfNone r ((y : ℕ) → is_seen c.search.new.seen y ≡ true → IsClosedAt i.edges.list c.deref.result.now (slice_index c.deref.result.now c.args.to) c.search.new.seen y)) none c.search.ensures.closed in
    let closed = subst (λ (z : List ℕ). (y : ℕ) → is_seen c.search.new.seen y ≡ true → IsClosedAt i.edges.list z (slice_index z c.args.to) c.search.new.seen y) c.deref.ensures.value closed_now in
    let apart = subst (λ (r : Option ℕ). IfNone r (is_seen c.search.new.seen c.args.to ≡ false)) none c.search.ensures.apart in
    let order_value = c.deref_mut-2.ensures.value in
    let places_value = c.deref_mut-3.ensures.value in
    let seen_value : c.deref_mut-4.result.now ≡ c.search.new.seen = c.deref_mut-4.ensures.value ∙ e1 in
    let order_is = rw (seen_value, order_value, low, high) at c.shift.ensures.order in
    let inside = rw (order_value, low, high) at c.shift.ensures.inside in
    let outside = rw seen_value at c.shift.ensures.outside in
    let seen_length = ap (λ (z : List Bool). length z) seen_value in
    let order_length = ap (λ (z : List ℕ). length z) order_value in
    let places_length = ap (λ (z : List ℕ). length z) places_value in
    let n_long : length c.shift.new.seen ≡ i.edges.nodes = omega (arith, c.shift.auto.seen, seen_length, r_long) in
    let order_ok = i.order.ok.0 in
    let places_ok = i.places.ok.0 in
    let w_order = written_back i.order.len c.shift.new.order i.order.items (omega (arith, c.shift.auto.order, order_length)) (omega arith) in
    let w_places = written_back i.places.len c.shift.new.places i.places.items (omega (arith, c.shift.auto.places, places_length)) (omega arith) in
    let w_seen = written_back i.seen.len c.shift.new.seen c.search.new.seen (omega (arith, n_long, r_long)) (omega (arith, s_long)) in
    let room : length i.edges.list < i.edges.limit = omega (arith, ap (λ (v : OrderView). length v.edges) view, ap (λ (v : OrderView). v.max_edges) view, c.requires.room) in
    let parts = parts_moved i.edges.nodes i.edges.limit c.args.from c.args.to i.edges.list i.order.items i.places.items i.cycle.items i.seen.items c.search.new.visits.items c.search.new.seen c.shift.new.seen c.shift.new.order c.shift.new.places p.0 room f t h visits closed apart r_long n_long order_is c.shift.ensures.placed inside outside in
    let within = place_within o i.places.items c.args.from p.0.kept p.0.placed f in
    rw w_order (near_at o i.places.items c.shift.new.order c.search.new.seen c.args.from c.args.to p.0.placed h (omega (arith, within, p.0.kept.count)) order_is c.args.self.now view)
