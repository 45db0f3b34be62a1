use Rattle.std.proofs.Common.{◌≡◌, ◌++◌, length}
use Rattle.log_text.specs.Spelling.{hinted_rows, rows_of}
use Rattle.log_text.proofs.whole.take_all.Given as goal

-- what was taken, with what is left, is what the reader had
abbrev pub invariant-loop-entry : goal.invariant-loop-entry
invariant-loop-entry l = record {
  rows : hinted_rows l.entries l.lists ++ rows_of l.reader.ready ≡ rows_of l.fn.reader.ready;
  one_each : length l.lists ≡ length l.entries;
  same : l.reader ≡ record l.fn.reader { ready = l.reader.ready };
}

abbrev pub decreases-loop-entry : goal.decreases-loop-entry
decreases-loop-entry l = length l.reader.ready
