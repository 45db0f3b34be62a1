use Rattle.std.proofs.Common.{◌≡◌, drop}
use Rattle.std.specs.List.{list_all}
use Rattle.exec_check.specs.ActionTests as tests
use Rattle.exec_check.proofs.orders.are_writes.Given as goal

abbrev pub invariant-loop-event : goal.invariant-loop-event
invariant-loop-event l = list_all (tests.is_write l.event_actions l.cell) (drop l.event-index l.events) ≡ list_all (tests.is_write l.event_actions l.cell) l.events
