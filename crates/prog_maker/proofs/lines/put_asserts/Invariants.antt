use Rattle.std.proofs.Common.{◌≡◌, ◌-◌, ◌++◌, map}
use Rattle.std.specs.List.{range_with_len}
use Rattle.line_text.specs.Lines.{text_of}
use Rattle.prog_maker.specs.Made.{assert_line}
use Rattle.prog_maker.proofs.lines.put_asserts.Given as goal

-- what is there, with the lines to come, is all
abbrev pub invariant-loop-i : goal.invariant-loop-i
invariant-loop-i l = l.out.items ++ text_of (map assert_line (range_with_len l.i (l.number - l.i))) ≡ l.fn.out.items ++ text_of (map assert_line (range_with_len 0 l.number))
