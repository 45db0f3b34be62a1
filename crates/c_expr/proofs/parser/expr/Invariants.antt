use Rattle.std.proofs.Common.{◌≡◌, ◌≤◌, ◌-◌, [], length, drop}
use Rattle.c_expr.specs.Machine as machine
use Rattle.c_expr.specs.Parser as spec
use Rattle.c_expr.proofs.parser.expr.Given as goal

abbrev pub invariant-loop-next : goal.invariant-loop-next
invariant-loop-next l = record {
  after : l.fn.at ≤ l.next;
  within : l.next ≤ length l.list;
  runs : machine.run l.limits.form l.limits.room (spec.seen l.reading l.stack) (drop l.next l.list) ≡ machine.run l.limits.form l.limits.room (machine.Want []) (drop l.fn.at l.list);
}

abbrev pub decreases-loop-next : goal.decreases-loop-next
decreases-loop-next l = length l.list - l.next
