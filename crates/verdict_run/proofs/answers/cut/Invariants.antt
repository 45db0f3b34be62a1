use Rattle.std.proofs.Common.{◌≡◌, ◌+◌, ◌≤◌, ◌++◌, List, length}
use Rattle.lemma_log.specs.declared.Entry.{Entry}
use Rattle.verdict_run.proofs.answers.cut.Given as goal

abbrev pub invariant-loop-entries : goal.invariant-loop-entries
invariant-loop-entries l = record {
  enough : l.last + 1 ≤ length l.entries;
  rest : (rest : List Entry) × (l.fn.log.entries ≡ l.entries ++ rest);
}

abbrev pub decreases-loop-entries : goal.decreases-loop-entries
decreases-loop-entries l = length l.entries
