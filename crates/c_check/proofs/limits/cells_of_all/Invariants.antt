use Rattle.std.proofs.Common.{◌≡◌, ◌+◌, drop}
use Rattle.c_tree.specs.Level.{capped}
use Rattle.c_check.specs.Limits.{cells_of_all}
use Rattle.c_check.proofs.limits.cells_of_all.Given as goal

abbrev pub invariant-loop-declarator : goal.invariant-loop-declarator
invariant-loop-declarator l = record {
  count : capped (l.cells + cells_of_all (drop l.declarator-index l.declarators)) ≡ capped (cells_of_all l.declarators);
  small : capped l.cells ≡ l.cells;
}
