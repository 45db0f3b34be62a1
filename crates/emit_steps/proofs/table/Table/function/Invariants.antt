use Rattle.std.proofs.Common.{◌≡◌, drop}
use Rattle.std.specs.Prelude.{slice_get}
use Rattle.c_rules.specs.Names.{functions_of}
use Rattle.emit_steps.proofs.table.Table.function.Given as goal

abbrev pub invariant-loop-item : goal.invariant-loop-item
invariant-loop-item l = slice_get (functions_of (drop l.item-index l.self.items.now)) l.left ≡ slice_get (functions_of l.self.items.now) l.number
