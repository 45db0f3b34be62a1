use Rattle.std.proofs.Common.{◌≡◌, ◌++◌, drop, map}
use Rattle.std.specs.List.{AllByRecursion}
use Rattle.witness_text.specs.Spelling.{HasPairNumbers}
use Rattle.line_text.specs.Lines.{text_of}
use Rattle.witness_text.specs.Witness.{rf_line}
use Rattle.witness_text.proofs.printing.put_sources.Given as goal

-- what is written, with the lines to come, is what was there with all lines; and if the pairs to come have numbers, all have
abbrev pub invariant-loop-pair : goal.invariant-loop-pair
invariant-loop-pair l = record {
  text : l.out.items ++ text_of (map rf_line (drop l.pair-index l.pairs)) ≡ l.fn.out.items ++ text_of (map rf_line l.pairs);
  numbers : AllByRecursion HasPairNumbers (drop l.pair-index l.pairs) → AllByRecursion HasPairNumbers l.pairs;
}
