use Rattle.std.proofs.Common.{◌≡◌, ◌+◌, ◌-◌, length, ap, arith}
use Rattle.std.proofs.lemmas.List.{length-take}
use Rattle.cycle_detect.specs.Parts.{EdgesView}
use Rattle.cycle_detect.proofs.Linked.{linked_cut}
use Rattle.cycle_detect.proofs.edges.Edges.pop.Goals as goal

pub invariant_of-self : goal.invariant_of-self
invariant_of-self c =
    let i = c.self.inside in
    let list = ap (λ (v : EdgesView). length v.list) c.self.view_is in
    let long = i.ends.ok.0 in
    let count : (c.len-last.result - 1) + 1 ≡ length i.ends.items = omega (arith, c.len-last.ensures, list, c.requires) in
    rw (c.truncate.ensures.items, c.truncate-2.ensures.items) (
      linked_cut i.nodes i.ends.items i.older.items i.newest.items (c.len-last.result - 1) c.index.result.now c.index-2.result.now c.self.invariant.0 count c.index.ensures c.index-2.ensures,
      omega (arith, length-take (c.len-last.result - 1) i.ends.items, c.self.invariant.1),
      omega (arith, c.self.invariant.2, c.truncate.ensures.capacity),
      omega (arith, c.self.invariant.3, c.truncate-2.ensures.capacity),
      c.self.invariant.4,
    )
