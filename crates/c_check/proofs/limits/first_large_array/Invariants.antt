use Rattle.std.proofs.Common.{◌≡◌, drop}
use Rattle.c_rules.specs.Names.{or_else}
use Rattle.c_check.specs.Limits.{large_in_items}
use Rattle.c_check.proofs.limits.first_large_array.Given as goal

abbrev pub invariant-loop-item : goal.invariant-loop-item
invariant-loop-item l = or_else l.found (large_in_items (drop l.item-index l.items)) ≡ large_in_items l.items
