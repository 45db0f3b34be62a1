use Rattle.std.proofs.Common.{◌≡◌, drop}
use Rattle.std.specs.List.{list_any}
use Rattle.exec_check.specs.ActionTests as tests
use Rattle.exec_check.proofs.sources.is_given.Given as goal

abbrev pub invariant-loop-pair : goal.invariant-loop-pair
invariant-loop-pair l = list_any (tests.gives l.cells l.event_actions l.event l.cell l.value) (drop l.pair-index l.rf) ≡ list_any (tests.gives l.cells l.event_actions l.event l.cell l.value) l.rf
