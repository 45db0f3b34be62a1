use Rattle.std.proofs.Common.{◌≡◌, ◌++◌, drop}
use Rattle.std.specs.List.{AllByRecursion}
use Rattle.c_check.specs.PlainNames.{cell_names}
use Rattle.witness_text.specs.Spelling.{HasEventNumbers}
use Rattle.line_text.specs.Lines.{text_of}
use Rattle.witness_text.specs.Witness.{co_lines}
use Rattle.witness_text.proofs.printing.put_orders.Given as goal

-- what is written, with the lines of the cells to come, is what was there with all lines; and if the orders to come have numbers, all have
abbrev pub invariant-loop-cell : goal.invariant-loop-cell
invariant-loop-cell l = record {
  text : l.out.items ++ text_of (co_lines (cell_names l.cells) l.cell (drop l.cell l.orders)) ≡ l.fn.out.items ++ text_of (co_lines (cell_names l.cells) 0 l.orders);
  numbers : AllByRecursion (AllByRecursion HasEventNumbers) (drop l.cell l.orders) → AllByRecursion (AllByRecursion HasEventNumbers) l.orders;
}
