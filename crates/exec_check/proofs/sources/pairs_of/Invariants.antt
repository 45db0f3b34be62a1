use Rattle.std.proofs.Common.{◌≡◌, ◌≤◌, ◌+◌, drop}
use Rattle.exec_check.specs.ThreadTests.{passing}
use Rattle.exec_check.specs.ActionTests as tests
use Rattle.exec_check.proofs.sources.pairs_of.Given as goal

abbrev pub invariant-loop-pair : goal.invariant-loop-pair
invariant-loop-pair l = record {
  few : l.pairs ≤ l.pair-index;
  left : l.pairs + passing (tests.reads_at l.event) (drop l.pair-index l.rf) ≡ passing (tests.reads_at l.event) l.rf;
}
