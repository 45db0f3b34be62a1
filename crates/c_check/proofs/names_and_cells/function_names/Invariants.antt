use Rattle.std.proofs.Common.{◌≡◌, ◌++◌, drop, map}
use Rattle.c_tree.specs.declared.program.Function.{Function}
use Rattle.c_rules.specs.Names.{functions_of}
use Rattle.c_check.proofs.names_and_cells.function_names.Given as goal

abbrev pub invariant-loop-item : goal.invariant-loop-item
invariant-loop-item l = l.names ++ map (λ (f : Function). f.name) (functions_of (drop l.item-index l.items)) ≡ map (λ (f : Function). f.name) (functions_of l.items)
