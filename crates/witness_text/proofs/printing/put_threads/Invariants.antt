use Rattle.std.proofs.Common.{◌≡◌, ◌++◌, drop}
use Rattle.std.specs.Prelude.{flat_map}
use Rattle.std.specs.List.{AllByRecursion}
use Rattle.witness_text.specs.Spelling.{HasThreadNumbers}
use Rattle.line_text.specs.Lines.{text_of}
use Rattle.witness_text.specs.Witness.{thread_lines}
use Rattle.witness_text.proofs.printing.put_threads.Given as goal

-- what is written, with the lines to come, is what was there with all lines; and if the threads to come have numbers, all have
abbrev pub invariant-loop-part : goal.invariant-loop-part
invariant-loop-part l = record {
  text : l.out.items ++ text_of (flat_map (thread_lines l.functions) (drop l.part-index l.parts)) ≡ l.fn.out.items ++ text_of (flat_map (thread_lines l.functions) l.parts);
  numbers : AllByRecursion HasThreadNumbers (drop l.part-index l.parts) → AllByRecursion HasThreadNumbers l.parts;
}
