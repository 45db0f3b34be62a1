use Rattle.std.proofs.Common.{◌≡◌, ◌++◌, drop}
use Rattle.c_check.specs.Checked.{cells_of_declarators}
use Rattle.c_check.proofs.names_and_cells.push_declarators.Given as goal

abbrev pub invariant-loop-declarator : goal.invariant-loop-declarator
invariant-loop-declarator l = l.cells ++ cells_of_declarators (drop l.declarator-index l.declarators) ≡ l.fn.cells ++ cells_of_declarators l.declarators
