use Rattle.std.proofs.Common.{◌≡◌, drop}
use Rattle.exec_check.specs.ThreadTests.{first_not}
use Rattle.exec_check.specs.ThreadTests.{handle_of}
use Rattle.exec_check.specs.ActionTests as tests
use Rattle.exec_check.proofs.creates.not_created.Given as goal

abbrev pub invariant-loop-thread : goal.invariant-loop-thread
invariant-loop-thread l = first_not (tests.is_created l.event_actions) handle_of (drop l.thread-index l.threads) ≡ first_not (tests.is_created l.event_actions) handle_of l.threads
