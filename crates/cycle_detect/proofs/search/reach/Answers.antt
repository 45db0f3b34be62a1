use Rattle.std.proofs.Common.{[], ◌∷◌, arith}
use Rattle.dg_base.proofs.Lists.{get_append_left}
use Rattle.cycle_detect.proofs.Visiting.{visits_room}
use Rattle.cycle_detect.proofs.Searching.{visits_reach}
use Rattle.cycle_detect.proofs.search.reach.Goals as goal

pub push_reserved-requires : goal.push_reserved-requires
push_reserved-requires c =
    let long = c.args.visits.now.ok.0 in
    let room = visits_room c.args.edges.now.list c.args.places.now c.args.low c.args.from c.args.visits.now.items c.args.seen.now c.args.source c.requires.visits (omega (arith, c.requires.within, c.requires.nodes)) c.if-not-seen-source.true in
    omega (arith, c.requires.room, c.requires.nodes)

pub returns-then-not-seen-source-clause-visits : goal.returns-then-not-seen-source-clause-visits
returns-then-not-seen-source-clause-visits c =
    rw c.push_reserved.ensures.items
    (visits_reach c.args.edges.now.list c.args.places.now c.args.low c.args.from c.args.visits.now.items c.args.seen.now c.args.source c.args.node c.args.at c.requires.visits c.requires.here c.requires.edge (omega (arith, c.requires.within, c.requires.nodes)) c.if-places-source.true c.requires.forward c.if-not-seen-source.true)

pub returns-then-not-seen-source-clause-kept : goal.returns-then-not-seen-source-clause-kept
returns-then-not-seen-source-clause-kept c = λ i v e.
    rw c.push_reserved.ensures.items (get_append_left c.args.visits.now.items (record { node = c.args.source; next = c.args.at } ∷ []) i v e)
