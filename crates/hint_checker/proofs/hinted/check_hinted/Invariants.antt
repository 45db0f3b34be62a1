use Rattle.std.proofs.Common.{◌≤◌, ◌+◌}
use Rattle.hint_checker.specs.Checking.{IsReadyFor}
use Rattle.hint_checker.specs.Counting.{most_looks_in}
use Rattle.hint_checker.proofs.Logs.{AreGoodTo}
use Rattle.hint_checker.proofs.hinted.check_hinted.Given as goal

-- the entries passed follow by their hints
abbrev pub invariant-loop-i : goal.invariant-loop-i
invariant-loop-i g l = record {
  good : AreGoodTo l.problem l.log.log.entries l.log.hints l.i;
  ready : IsReadyFor l.problem l.checker;
  steps : l.steps ≤ l.fn.steps + most_looks_in l.problem l.log.log.entries l.log.hints l.i;
}
