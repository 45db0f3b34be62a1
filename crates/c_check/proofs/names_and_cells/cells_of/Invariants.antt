use Rattle.std.proofs.Common.{◌≡◌, ◌++◌, drop}
use Rattle.c_check.specs.Checked.{cells_of_items}
use Rattle.c_check.proofs.names_and_cells.cells_of.Given as goal

abbrev pub invariant-loop-item : goal.invariant-loop-item
invariant-loop-item l = l.cells ++ cells_of_items (drop l.item-index l.items) ≡ cells_of_items l.items
