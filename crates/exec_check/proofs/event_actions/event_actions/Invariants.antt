use Rattle.std.proofs.Common.{◌≡◌, ◌++◌, drop}
use Rattle.exec_check.specs.EventActions as specs
use Rattle.exec_check.proofs.event_actions.event_actions.Given as goal

abbrev pub invariant-loop-thread : goal.invariant-loop-thread
invariant-loop-thread l = specs.event_actions l.threads ≡ l.list ++ specs.event_actions (drop l.thread-index l.threads)
