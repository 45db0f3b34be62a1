use Rattle.std.proofs.Common.{◌≡◌, ◌≤◌, length, take}
use Rattle.from_read.proofs.edge_set.EdgeSet.cut_to.Given as goal

abbrev pub invariant-loop-self : goal.invariant-loop-self
invariant-loop-self l = record {
  cut : l.self ≡ record l.fn.self { list = take (length l.self.list) l.fn.self.list };
  least : l.count ≤ length l.self.list;
}

abbrev pub decreases-loop-self : goal.decreases-loop-self
decreases-loop-self l = length l.self.list
