use Rattle.std.proofs.Common.{◌≡◌, drop}
use Rattle.std.specs.List.{list_all}
use Rattle.exec_check.specs.ActionTests as tests
use Rattle.exec_check.proofs.orders.are_listed.Given as goal

abbrev pub invariant-loop-event_action : goal.invariant-loop-event_action
invariant-loop-event_action l = list_all (tests.is_listed l.cell l.events) (drop l.event_action-index l.event_actions) ≡ list_all (tests.is_listed l.cell l.events) l.event_actions
