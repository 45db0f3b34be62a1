use Rattle.std.proofs.Common.{take}
use Rattle.from_read.specs.Parts.{ArePutFor, IsFine, pair_edges}
use Rattle.from_read.proofs.pairs.put_read.Given as goal

abbrev pub invariant-loop-order : goal.invariant-loop-order
invariant-loop-order l = record {
  put : ArePutFor (λ b. pair_edges l.nodes l.kinds l.atom b) (take l.order-index l.orders) l.fn.found.list l.found.list;
  fine : IsFine l.nodes l.kinds l.found;
}
