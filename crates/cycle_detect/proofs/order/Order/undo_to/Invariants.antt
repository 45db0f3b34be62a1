use Rattle.std.proofs.Common.{◌≡◌, ◌≤◌, length, take}
use Rattle.cycle_detect.proofs.order.Order.undo_to.Given as goal

abbrev pub invariant-loop-self : goal.invariant-loop-self
invariant-loop-self l = record {
  cut : l.self ≡ record l.fn.self { edges = take (length l.self.edges) l.fn.self.edges };
  least : l.mark ≤ length l.self.edges;
}

abbrev pub decreases-loop-self : goal.decreases-loop-self
decreases-loop-self l = length l.self.edges
