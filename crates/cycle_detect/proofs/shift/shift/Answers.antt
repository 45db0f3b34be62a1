use Rattle.cycle_detect.proofs.Shifting.{put_moved, moved_range, moved_once, moved_placed, moved_unseen}
use Rattle.cycle_detect.proofs.shift.shift.Goals as goal

pub renumber-requires-clause-range : goal.renumber-requires-clause-range
renumber-requires-clause-range g c =
    let order = c.args.order.now in
    rw (c.part.ensures.nodes, put_moved order c.args.seen.now c.args.low c.args.high c.requires.ordered)
    (moved_range order c.args.places.now c.args.seen.now c.args.low c.args.high c.requires.placed c.requires.ordered)

pub renumber-requires-clause-once : goal.renumber-requires-clause-once
renumber-requires-clause-once g c =
    let order = c.args.order.now in
    rw (c.part.ensures.nodes, put_moved order c.args.seen.now c.args.low c.args.high c.requires.ordered)
    (moved_once order c.args.places.now c.args.seen.now c.args.low c.args.high c.requires.placed c.requires.ordered)

pub returns-clause-placed : goal.returns-clause-placed
returns-clause-placed g c =
    let order = c.args.order.now in
    let low = c.args.low in
    let high = c.args.high in
    let part = c.part.ensures.nodes in
    let whole = put_moved order c.args.seen.now low high c.requires.ordered in
    let inside = rw (part, whole) at c.renumber.ensures.inside in
    let outside = rw (part, whole) at c.renumber.ensures.outside in
    rw (part, whole) (moved_placed order c.args.places.now c.renumber.new.places c.args.seen.now c.renumber.new.seen low high c.requires.placed c.requires.ordered c.requires.within c.renumber.auto.places inside outside)

pub returns-clause-inside : goal.returns-clause-inside
returns-clause-inside g c =
    let order = c.args.order.now in
    let low = c.args.low in
    let high = c.args.high in
    let inside = rw (c.part.ensures.nodes, put_moved order c.args.seen.now low high c.requires.ordered) at c.renumber.ensures.inside in
    moved_unseen order c.args.seen.now c.renumber.new.seen low high c.requires.ordered c.requires.within (λ k a b. (inside k a b).1)
