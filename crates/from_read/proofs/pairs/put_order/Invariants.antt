use Rattle.std.proofs.Common.{take}
use Rattle.from_read.specs.Parts.{ArePutFor, IsFine, pair_edges}
use Rattle.from_read.proofs.pairs.put_order.Given as goal

abbrev pub invariant-loop-read : goal.invariant-loop-read
invariant-loop-read l = record {
  put : ArePutFor (λ a. pair_edges l.nodes l.kinds a l.atom) (take l.read-index l.reads) l.fn.found.list l.found.list;
  fine : IsFine l.nodes l.kinds l.found;
}
