use Rattle.std.proofs.Common.{◌≡◌, ◌++◌, ◌-◌}
use Rattle.c_check.specs.Checked.{first_values, array_cells}
use Rattle.c_check.proofs.names_and_cells.push_array.Given as goal

abbrev pub invariant-loop-cell : goal.invariant-loop-cell
invariant-loop-cell l = l.cells ++ array_cells (l.count - l.cell) l.name l.cell (first_values l.start) ≡ l.fn.cells ++ array_cells l.count l.name 0 (first_values l.start)
