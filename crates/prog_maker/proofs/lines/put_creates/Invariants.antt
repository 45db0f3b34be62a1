use Rattle.std.proofs.Common.{◌≡◌, ◌-◌, ◌++◌}
use Rattle.std.specs.Prelude.{flat_map}
use Rattle.std.specs.List.{range_with_len}
use Rattle.line_text.specs.Lines.{text_of}
use Rattle.prog_maker.specs.Made.{create_lines}
use Rattle.prog_maker.proofs.lines.put_creates.Given as goal

-- what is there, with the lines to come, is all
abbrev pub invariant-loop-i : goal.invariant-loop-i
invariant-loop-i l = l.out.items ++ text_of (flat_map create_lines (range_with_len l.i (l.number - l.i))) ≡ l.fn.out.items ++ text_of (flat_map create_lines (range_with_len 0 l.number))
