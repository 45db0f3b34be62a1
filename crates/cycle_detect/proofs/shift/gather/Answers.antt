use Rattle.std.proofs.Common.{◌≡◌, ◌<◌, get_or, length, ◌∙◌, ap, arith}
use Rattle.std.proofs.lemmas.List.{length_push, get_or_default}
use Rattle.std.proofs.lemmas.List.Filters.{FiltersInPlace-more_set, FiltersInPlace-more_no}
use Rattle.cycle_detect.proofs.Shifting.{rest_read, aside_yes, aside_no}
use Rattle.cycle_detect.proofs.shift.gather.Goals as goal
use Rattle.cycle_detect.proofs.shift.gather.Goals.{then-seen-node, else-seen-node}

pub bounds-seen-node : goal.bounds-seen-node
bounds-seen-node g c =
    let read = rest_read c.args.nodes.now c.loop-read.nodes c.loop-read.read c.loop-read.invariant.moves.rest in
    omega (arith, read, c.requires.range c.loop-read.read c.loop-read-test.true)

pub loop-read-preserved : goal.loop-read-preserved
loop-read-preserved g c =
    let seen = c.args.seen.now in
    let old = c.args.nodes.now in
    let i = c.loop-read.read in
    let x = get_or c.loop-read.nodes i 0 in
    let inv = c.loop-read.invariant in
    let h = c.loop-read-test.true in
    let inside : i < length c.loop-read.nodes = omega (arith, h, c.loop-read.auto.nodes) in
    let read : x ≡ get_or old i 0 = rest_read old c.loop-read.nodes i inv.moves.rest in
    let itself : x ≡ get_or c.loop-read.nodes i x = get_or_default c.loop-read.nodes i 0 x inside in
    let tick = c.tick.ensures in
    elim c.if-seen-node.branch [
      | then-seen-node w ↦ rw (w.nodes-is, w.aside-is, w.write-is) (record {
        moves = FiltersInPlace-more_set inv.moves inside w.if-seen-node.true itself;
        others = aside_yes seen old c.loop-read.aside.items i x h read w.if-seen-node.true inv.others;
        count = omega (arith, inv.count);
        room = inv.room;
        ticks = omega (arith, inv.ticks);
      })
      | else-seen-node w ↦ rw (w.nodes-is, w.aside-is, w.write-is) (record {
        moves = FiltersInPlace-more_no inv.moves inside w.if-seen-node.false itself;
        others = w.push_reserved.ensures.items ∙ aside_no seen old c.loop-read.aside.items i x h read w.if-seen-node.false inv.others;
        count = omega (arith, inv.count, ap length w.push_reserved.ensures.items, length_push c.loop-read.aside.items x);
        room = w.push_reserved.ensures.capacity ∙ inv.room;
        ticks = omega (arith, inv.ticks);
      })
    ]
