use Rattle.std.proofs.Common.{◌≡◌, drop}
use Rattle.exec_check.specs.ActionTests as tests
use Rattle.exec_check.proofs.orders.no_repeats.Given as goal

abbrev pub invariant-loop-event : goal.invariant-loop-event
invariant-loop-event l = record {
  counted : l.number ≡ l.event-index;
  left : tests.no_repeats (drop l.event-index l.events) ≡ tests.no_repeats l.events;
}
