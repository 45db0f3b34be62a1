use Rattle.std.proofs.Common.{length, ◌-◌, ◌≤◌}
use Rattle.c_stmt.specs.Machine as machine
use Rattle.c_stmt.proofs.Answering.{Reached}
use Rattle.c_stmt.proofs.parser.parse.Given as goal

abbrev pub invariant-loop-next : goal.invariant-loop-next
invariant-loop-next l = record {
  within : l.next ≤ length l.list;
  reached : Reached l.list l.next (machine.seen l.position l.read);
}

abbrev pub decreases-loop-next : goal.decreases-loop-next
decreases-loop-next l = length l.list - l.next
