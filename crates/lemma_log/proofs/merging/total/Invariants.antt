use Rattle.std.proofs.Common.{◌≡◌, length, sum_by, take}
use Rattle.lemma_log.proofs.merging.total.Given as goal

abbrev pub invariant-loop-log : goal.invariant-loop-log
invariant-loop-log l = l.total ≡ sum_by length (take l.log-index l.logs)
