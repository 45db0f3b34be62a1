use Rattle.std.proofs.Common.{◌≡◌, length, ap, refl, arith}
use Rattle.std.proofs.lemmas.List.{length_push}
use Rattle.std.proofs.lemmas.Option.{slice_get_read}
use Rattle.cycle_detect.specs.Parts.{EdgesView}
use Rattle.cycle_detect.proofs.Linked.{linked_push}
use Rattle.cycle_detect.proofs.edges.Edges.push.Goals as goal

pub invariant_of-self : goal.invariant_of-self
invariant_of-self c =
    let i = c.self.inside in
    let linked = c.self.invariant.0 in
    let nodes = ap (λ (v : EdgesView). v.nodes) c.self.view_is in
    let limit = ap (λ (v : EdgesView). v.limit) c.self.view_is in
    let list = ap (λ (v : EdgesView). length v.list) c.self.view_is in
    let long = i.ends.ok.0 in
    let id : c.len-id.result ≡ length i.ends.items = omega (arith, c.len-id.ensures) in
    let here = slice_get_read i.newest.items (length i.newest.items) c.args.to c.index.result.now refl (omega (arith, nodes, linked.newest_long, c.requires.to)) c.index.ensures in
    rw (c.push_reserved-2.ensures.items, c.push_reserved.ensures.items, id) (
      linked_push i.nodes i.ends.items i.older.items i.newest.items c.args.from c.args.to c.index.result.now linked (omega (arith, nodes, c.requires.from)) (omega (arith, nodes, c.requires.to)) here,
      omega (arith, length_push i.ends.items (c.args.from, c.args.to), list, limit, c.requires.room),
      omega (arith, c.self.invariant.2, c.push_reserved-2.ensures.capacity),
      omega (arith, c.self.invariant.3, c.push_reserved.ensures.capacity),
      c.self.invariant.4,
    )
