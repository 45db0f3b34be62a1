use Rattle.std.proofs.Common.{inl, inr, refl, ap, arith}
use Rattle.from_read.specs.Parts.{EdgeSetView, HasEdge}
use Rattle.from_read.proofs.Ends.{ends_long, not_there, there}
use Rattle.from_read.proofs.edge_set.EdgeSet.put.Goals as goal

pub end_in-end-requires : goal.end_in-end-requires
end_in-end-requires c = let nodes = ap (λ (v : EdgeSetView). v.nodes) c.self.view_is in omega (arith, nodes, c.self.invariant.2, c.requires.to)

pub push-requires-clause-room : goal.push-requires-clause-room
push-requires-clause-room c =
    let i = c.self.inside in
    let room = rw (← c.self.view_is) at c.requires.room in
    let free : ¬ HasEdge i.list.items c.args.edge = not_there i.list.items i.ends.list c.args.edge c.end_in-end.result c.self.invariant.0 c.end_in-end.ensures c.in-None.ensures in
    omega (arith, room free, ends_long i.list.items i.ends.list c.self.invariant.0)

pub push_reserved-requires : goal.push_reserved-requires
push_reserved-requires c =
    let i = c.self.inside in
    let room = rw (← c.self.view_is) at c.requires.room in
    let free : ¬ HasEdge i.list.items c.args.edge = not_there i.list.items i.ends.list c.args.edge c.end_in-end.result c.self.invariant.0 c.end_in-end.ensures c.in-None.ensures in
    let long = i.list.ok.0 in
    omega (arith, room free, c.self.invariant.1, long)

pub returns-in-None-clause-put : goal.returns-in-None-clause-put
returns-in-None-clause-put c =
    let i = c.self.inside in
    let free : ¬ HasEdge i.list.items c.args.edge = not_there i.list.items i.ends.list c.args.edge c.end_in-end.result c.self.invariant.0 c.end_in-end.ensures c.in-None.ensures in
    rw (← c.self.view_is) (inr (free, c.push_reserved.ensures.items))

pub returns-in-Some-clause-put : goal.returns-in-Some-clause-put
returns-in-Some-clause-put c =
    let i = c.self.inside in
    rw (← c.self.view_is) (inl (there i.list.items i.ends.list c.args.edge c.end_in-end.result c.in-Some.field-0 c.self.invariant.0 c.end_in-end.ensures c.in-Some.ensures, refl))
