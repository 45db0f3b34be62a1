use Rattle.std.proofs.Common.{◌-◌, length}
use Rattle.cycle_detect.proofs.Whole.{parts_cut}
use Rattle.cycle_detect.proofs.order.Order.undo_last.Goals as goal

pub invariant_of-self : goal.invariant_of-self
invariant_of-self c =
    let i = c.self.inside in
    rw c.pop.ensures (
      parts_cut i.edges.nodes i.edges.limit (length i.edges.list - 1) i.edges.list i.order.items i.places.items i.cycle.items i.seen.items c.self.invariant.0,
      c.self.invariant.1,
      c.self.invariant.2,
      c.self.invariant.3,
    )
