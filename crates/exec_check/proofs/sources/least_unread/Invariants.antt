use Rattle.std.proofs.Common.{◌≡◌, drop}
use Rattle.exec_check.specs.ActionTests as tests
use Rattle.exec_check.proofs.sources.least_unread.Given as goal

abbrev pub invariant-loop-pair : goal.invariant-loop-pair
invariant-loop-pair l = tests.least_unread l.event_actions l.least (drop l.pair-index l.rf) ≡ tests.least_unread l.event_actions l.fn.first l.rf
