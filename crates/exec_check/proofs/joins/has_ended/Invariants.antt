use Rattle.std.proofs.Common.{◌≡◌, drop}
use Rattle.std.specs.List.{list_any}
use Rattle.exec_check.specs.ActionTests as tests
use Rattle.exec_check.proofs.joins.has_ended.Given as goal

abbrev pub invariant-loop-thread : goal.invariant-loop-thread
invariant-loop-thread l = list_any (tests.has_ended l.handle) (drop l.thread-index l.threads) ≡ list_any (tests.has_ended l.handle) l.threads
