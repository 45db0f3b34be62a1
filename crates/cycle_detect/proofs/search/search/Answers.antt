use Rattle.std.proofs.Common.{length, refl, ◌∙◌, arith}
use Rattle.std.specs.Prelude.{slice_index}
use Rattle.std.proofs.lemmas.Option.{slice_get_read, slice_get_within}
use Rattle.cycle_detect.proofs.Visiting.{visits_start, looked_more}
use Rattle.cycle_detect.proofs.Searching.{done_more, all_closed}
use Rattle.cycle_detect.proofs.search.search.Goals as goal

pub loop-at-init : goal.loop-at-init
loop-at-init g c = record {
  fits = rw (c.push_reserved.ensures.items, c.clear.ensures.items) (visits_start c.args.edges.now.list c.args.places.now (slice_index c.args.places.now c.args.to) c.args.from c.args.seen.now (record { node = c.args.from; next = 0 }) refl (omega (arith, c.requires.from, c.requires.nodes)) c.requires.back c.requires.unseen);
  within = omega arith;
  done = λ i v h e. absurd (omega arith);
  room = c.push_reserved.ensures.capacity ∙ c.clear.ensures.capacity;
  ticks = omega arith;
}

pub returns-then-node-to-clause-some : goal.returns-then-node-to-clause-some
returns-then-node-to-clause-some g c =
    let vs = c.loop-at.visits in
    let long = vs.ok.0 in
    (c.index.result.now, slice_get_read vs.items (length vs.items) c.loop-at.at c.index.result.now refl (omega (arith, c.len.ensures, c.loop-at-test.true)) c.index.ensures, c.if-node-to.true)

pub visit_sources-requires-clause-here : goal.visit_sources-requires-clause-here
visit_sources-requires-clause-here g c =
    let vs = c.loop-at.visits in
    let long = vs.ok.0 in
    (c.index.result.now, slice_get_read vs.items (length vs.items) c.loop-at.at c.index.result.now refl (omega (arith, c.len.ensures, c.loop-at-test.true)) c.index.ensures, refl)

pub loop-at-preserved : goal.loop-at-preserved
loop-at-preserved g c =
    let vs = c.loop-at.visits in
    let long = vs.ok.0 in
    let v = c.index.result.now in
    let inv = c.loop-at.invariant in
    let read = slice_get_read vs.items (length vs.items) c.loop-at.at v refl (omega (arith, c.len.ensures, c.loop-at-test.true)) c.index.ensures in
    let kept = c.visit_sources.ensures.kept in
    let now = c.visit_sources.new.visits.items in
    let inside = slice_get_within now c.loop-at.at v (kept c.loop-at.at v read) in
    record {
      fits = c.visit_sources.ensures.visits;
      within = omega (arith, inside);
      done = done_more c.args.edges.now.list c.args.places.now (slice_index c.args.places.now c.args.to) c.loop-at.at c.args.to v.node vs.items now c.loop-at.seen c.visit_sources.new.seen inv.done (v, read, refl) c.if-node-to.false c.visit_sources.ensures.closed c.visit_sources.ensures.seen kept;
      room = c.visit_sources.ensures.capacity ∙ inv.room;
      ticks = let more = looked_more c.args.edges.now.list vs.items now c.loop-at.at v read kept in omega (arith, more, inv.ticks, c.tick.ensures, c.visit_sources.ensures.steps);
    }

pub returns-clause-closed : goal.returns-clause-closed
returns-clause-closed g c =
    let vs = c.loop-at.visits in
    let long = vs.ok.0 in
    (all_closed c.args.edges.now.list c.args.places.now (slice_index c.args.places.now c.args.to) c.args.from c.loop-at.at c.args.to vs.items c.loop-at.seen c.loop-at.invariant.fits (omega (arith, c.len.ensures, c.loop-at-test.false)) c.loop-at.invariant.done).0

pub returns-clause-apart : goal.returns-clause-apart
returns-clause-apart g c =
    let vs = c.loop-at.visits in
    let long = vs.ok.0 in
    (all_closed c.args.edges.now.list c.args.places.now (slice_index c.args.places.now c.args.to) c.args.from c.loop-at.at c.args.to vs.items c.loop-at.seen c.loop-at.invariant.fits (omega (arith, c.len.ensures, c.loop-at-test.false)) c.loop-at.invariant.done).1
