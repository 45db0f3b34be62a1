use Rattle.std.proofs.Common.{◌≡◌, ◌++◌, ◌^◌, ◌<◌, drop, length}
use Rattle.consistency.specs.Numbering.{nodes_of}
use Rattle.consistency.proofs.numbering.numbered.Given as goal

abbrev pub invariant-loop-thread : goal.invariant-loop-thread
invariant-loop-thread l = record {
  fits : length l.nodes < 2 ^ 32;
  left : nodes_of 0 l.threads ≡ l.nodes ++ nodes_of (length l.nodes) (drop l.thread-index l.threads);
}
