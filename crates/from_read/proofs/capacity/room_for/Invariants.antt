use Rattle.std.proofs.Common.{◌≡◌, take, length}
use Rattle.from_read.proofs.Enough.{AreFlagged}
use Rattle.from_read.proofs.capacity.room_for.Given as goal

abbrev pub invariant-loop-kind : goal.invariant-loop-kind
invariant-loop-kind l = record {
  set_so_far : AreFlagged (take l.kind-index l.kinds) l.reads.items l.seconds.items;
  reads_long : length l.reads.items ≡ l.nodes;
  seconds_long : length l.seconds.items ≡ l.nodes;
}
