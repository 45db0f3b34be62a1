use Rattle.std.proofs.Common.{◌≡◌, drop}
use Rattle.c_rules.specs.Names as names
use Rattle.c_rules.proofs.names.function_named.Given as goal

abbrev pub invariant-loop-item : goal.invariant-loop-item
invariant-loop-item l = names.function_named (names.functions_of (drop l.item-index l.items)) l.name ≡ names.function_named (names.functions_of l.items) l.name
