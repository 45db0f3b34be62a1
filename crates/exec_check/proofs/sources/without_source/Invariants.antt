use Rattle.std.proofs.Common.{◌≡◌, drop}
use Rattle.exec_check.specs.ThreadTests.{first_not}
use Rattle.exec_check.specs.EventActions.{event_of}
use Rattle.exec_check.specs.ActionTests as tests
use Rattle.exec_check.proofs.sources.without_source.Given as goal

abbrev pub invariant-loop-event_action : goal.invariant-loop-event_action
invariant-loop-event_action l = first_not (tests.has_source l.cells l.event_actions l.rf) event_of (drop l.event_action-index l.event_actions) ≡ first_not (tests.has_source l.cells l.event_actions l.rf) event_of l.event_actions
