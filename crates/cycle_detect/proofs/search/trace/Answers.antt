use Rattle.std.proofs.Common.{◌<◌, ℕ, List, length, get_or, ap, ◌∙◌, arith}
use Rattle.std.proofs.lemmas.List.{length_push}
use Rattle.std.proofs.lemmas.Option.{slice_get-get_or}
use Rattle.cycle_detect.specs.declared.search.Visit.{Visit}
use Rattle.cycle_detect.proofs.Traces.{trace_more}
use Rattle.cycle_detect.proofs.search.trace.Goals as goal

pub loop-at-preserved : goal.loop-at-preserved
loop-at-preserved g c =
    let none : Visit = record { node = 0; next = 0 } in
    let vs = c.args.visits.now in
    let at = c.loop-at.at in
    let v = get_or vs at none in
    let w = get_or vs v.next none in
    let inv = c.loop-at.invariant in
    let pos : 0 < at = omega (arith, c.loop-at-test.true) in
    let here = slice_get-get_or vs at none inv.within in
    let back = c.requires.tree at v pos here in
    let there = slice_get-get_or vs v.next none (omega (arith, inv.within, back)) in
    let more = c.push_reserved-in-loop-at.ensures.items in
    let long = ap (λ (z : List ℕ). length z) more in
    record {
      way = rw more (trace_more vs c.args.start at c.loop-at.nodes.items v w inv.way pos here back there c.requires.once);
      within = omega (arith, inv.within, back);
      room = c.push_reserved-in-loop-at.ensures.capacity ∙ inv.room;
      ticks = omega (arith, c.tick-in-loop-at.ensures, inv.ticks, long, length_push c.loop-at.nodes.items w.node);
    }
