use Rattle.std.proofs.Common.{◌≡◌, drop}
use Rattle.exec_check.specs.ThreadTests.{first_not}
use Rattle.exec_check.specs.EventActions.{event_of}
use Rattle.exec_check.specs.ActionTests as tests
use Rattle.exec_check.proofs.joins.bad_join.Given as goal

abbrev pub invariant-loop-event_action : goal.invariant-loop-event_action
invariant-loop-event_action l = first_not (tests.joins_ended l.threads) event_of (drop l.event_action-index l.event_actions) ≡ first_not (tests.joins_ended l.threads) event_of l.event_actions
