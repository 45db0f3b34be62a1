use Rattle.std.proofs.Common.{◌≡◌, drop}
use Rattle.std.specs.List.{list_any}
use Rattle.exec_check.specs.ActionTests as tests
use Rattle.exec_check.proofs.orders.is_write.Given as goal

abbrev pub invariant-loop-event_action : goal.invariant-loop-event_action
invariant-loop-event_action l = list_any (tests.is_write_at l.cell l.event) (drop l.event_action-index l.event_actions) ≡ list_any (tests.is_write_at l.cell l.event) l.event_actions
