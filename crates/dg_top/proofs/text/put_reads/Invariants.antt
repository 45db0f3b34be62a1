use Rattle.std.proofs.Common.{◌≡◌, ◌++◌, drop}
use Rattle.std.specs.Prelude.{decimal}
use Rattle.line_text.specs.Words.{shown}
use Rattle.dg_top.proofs.text.put_reads.Given as goal

-- what is written, with what is still to be written, is what was there with all
abbrev pub invariant-loop-count : goal.invariant-loop-count
invariant-loop-count l = record { text : l.out.items ++ shown decimal (drop l.count-index l.reads) ≡ l.fn.out.items ++ shown decimal l.reads }
