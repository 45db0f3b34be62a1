use Rattle.std.proofs.Common.{◌≡◌, ℕ, ◌+◌, ◌≤◌, inl, inr, true, refl, ap, ◌∙◌, subst, arith}
use Rattle.std.specs.Prelude.{slice_get, slice_index}
use Rattle.std.proofs.lemmas.Option.{slice_get_within}
use Rattle.dg_base.proofs.Lists.{one_answer, place_of}
use Rattle.cycle_detect.specs.Parts.{is_seen}
use Rattle.cycle_detect.proofs.Searching.{link_held, link_before, link_smaller, left_more, left_start, ticks_more, ticks_start}
use Rattle.cycle_detect.proofs.search.visit_sources.Goals as goal

pub last_into-next-requires : goal.last_into-next-requires
last_into-next-requires g c =
    let here = c.requires.here in
    let w = c.requires.visits.within c.args.at here.0 here.1 in
    omega (arith, w.0, here.2, c.requires.nodes)

pub loop-next-init : goal.loop-next-init
loop-next-init g c = record {
  fits = c.requires.visits;
  kept_on = λ i v e. e;
  grown = λ n e. e;
  link = λ k e. (c.last_into-next.ensures.found k e).1;
  left = λ j x e l. inr (left_start c.args.edges.now.list c.args.node c.last_into-next.result c.last_into-next.ensures j x e);
  room = refl;
  ticks = ap (λ (n : ℕ). c.args.steps.now + n) (ticks_start c.args.edges.now.list c.args.node c.last_into-next.result c.last_into-next.ensures);
}

pub ends-source-requires : goal.ends-source-requires
ends-source-requires g c =
    let l = c.loop-next.invariant.link c.in-Some.id c.in-Some.is in
    slice_get_within c.args.edges.now.list c.in-Some.id (l.0, c.args.node) l.1

pub before-next-requires : goal.before-next-requires
before-next-requires g c =
    let l = c.loop-next.invariant.link c.in-Some.id c.in-Some.is in
    slice_get_within c.args.edges.now.list c.in-Some.id (l.0, c.args.node) l.1

pub reach-requires-clause-forward : goal.reach-requires-clause-forward
reach-requires-clause-forward g c =
    let r = c.ends-source.result in
    let h = link_held c.args.edges.now.list c.args.node c.in-Some.id r.0 r.1 c.loop-next.next c.loop-next.invariant.link c.in-Some.is c.ends-source.ensures.edge in
    c.requires.forward r.0 c.args.node h.2

pub reach-requires-clause-within : goal.reach-requires-clause-within
reach-requires-clause-within g c = c.ends-source.ensures.within.0

pub reach-requires-clause-edge : goal.reach-requires-clause-edge
reach-requires-clause-edge g c =
    let r = c.ends-source.result in
    let h = link_held c.args.edges.now.list c.args.node c.in-Some.id r.0 r.1 c.loop-next.next c.loop-next.invariant.link c.in-Some.is c.ends-source.ensures.edge in
    h.2

pub loop-next-smaller : goal.loop-next-smaller
loop-next-smaller g c =
    let r = c.ends-source.result in
    let h = link_held c.args.edges.now.list c.args.node c.in-Some.id r.0 r.1 c.loop-next.next c.loop-next.invariant.link c.in-Some.is c.ends-source.ensures.edge in
    let last = link_before c.args.edges.now.list c.args.node c.in-Some.id r.0 r.1 c.before-next.result h.0 c.ends-source.ensures.edge c.before-next.ensures in
    link_smaller c.args.edges.now.list c.args.node c.in-Some.id c.loop-next.next c.before-next.result c.in-Some.is last

pub loop-next-preserved : goal.loop-next-preserved
loop-next-preserved g c =
    let list = c.args.edges.now.list in
    let node = c.args.node in
    let id = c.in-Some.id in
    let r = c.ends-source.result in
    let inv = c.loop-next.invariant in
    let h = link_held list node id r.0 r.1 c.loop-next.next inv.link c.in-Some.is c.ends-source.ensures.edge in
    let last = link_before list node id r.0 r.1 c.before-next.result h.0 c.ends-source.ensures.edge c.before-next.ensures in
    record {
      fits = c.reach.ensures.visits;
      kept_on = λ i v e. c.reach.ensures.kept i v (inv.kept_on i v e);
      grown = λ n e. c.reach.ensures.seen n (inv.grown n e);
      link = λ k e. (last.found k e).1;
      left = left_more list node id c.loop-next.next c.before-next.result (λ (x : ℕ). c.args.low ≤ slice_index c.args.places.now x) (λ (x : ℕ). is_seen c.reach.new.seen x ≡ true) c.in-Some.is last
          (λ x e l.
          let same : r.0 ≡ x = ap (λ (p : ℕ × ℕ). p.0) (one_answer (slice_get list id) r (x, node) c.ends-source.ensures.edge e) in
          subst (λ (n : ℕ). is_seen c.reach.new.seen n ≡ true) same (c.reach.ensures.source (omega (arith, l, ap (λ (n : ℕ). slice_index c.args.places.now n) same))))
          (λ j x e l. elim (inv.left j x e l) [ inl d ↦ inl (c.reach.ensures.seen x d) | inr k ↦ inr k ]);
      room = c.reach.ensures.capacity ∙ inv.room;
      ticks = let more = ticks_more list node id r.0 c.loop-next.steps c.args.steps.now c.loop-next.next c.before-next.result c.in-Some.is h.1 last inv.ticks in omega (arith, more, c.tick.ensures);
    }

pub returns-clause-closed : goal.returns-clause-closed
returns-clause-closed g c = λ x m l.
    let p = place_of c.args.edges.now.list (x, c.args.node) m in
    elim (c.loop-next.invariant.left p.0 x p.1 l) [
      | inl d ↦ d
      | inr r ↦ let bad = r.1 in let never : ⊥ = cc in absurd never
    ]
