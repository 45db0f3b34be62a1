use Rattle.std.proofs.Common.{◌≡◌, ◌+◌, drop}
use Rattle.c_tree.specs.Level.{capped}
use Rattle.c_check.specs.Limits.{shared_cells}
use Rattle.c_check.proofs.limits.shared_cells.Given as goal

abbrev pub invariant-loop-item : goal.invariant-loop-item
invariant-loop-item l = record {
  count : capped (l.cells + shared_cells (drop l.item-index l.items)) ≡ capped (shared_cells l.items);
  small : capped l.cells ≡ l.cells;
}
