use Rattle.std.proofs.Common.{◌≡◌, ◌++◌, drop, map}
use Rattle.std.specs.List.{AllByRecursion}
use Rattle.line_text.specs.Lines.{text_of}
use Rattle.log_text.specs.Formats.{row_line}
use Rattle.log_text.specs.Numbers.{HasRowNumbers}
use Rattle.log_text.specs.Spelling.{hinted_rows}
use Rattle.log_text.proofs.printing.put_entries.Given as goal

-- what is written, with the lines still to be written, is what was there with all; and if the numbers to come have 32 bits, all have
abbrev pub invariant-loop-at : goal.invariant-loop-at
invariant-loop-at l = record {
  text : l.out.items ++ text_of (map (row_line l.hinted) (hinted_rows (drop l.at l.entries) (drop l.at l.hints))) ≡ l.fn.out.items ++ text_of (map (row_line l.hinted) (hinted_rows l.entries l.hints));
  numbers : AllByRecursion (HasRowNumbers l.hinted) (hinted_rows (drop l.at l.entries) (drop l.at l.hints)) → AllByRecursion (HasRowNumbers l.hinted) (hinted_rows l.entries l.hints);
}
