use Rattle.std.proofs.Common.{◌≡◌, drop, map}
use Rattle.run_model.specs.Programs.{shared_from, shared_of}
use Rattle.emit_steps.specs.Tables.{shared_as}
use Rattle.emit_steps.proofs.table.shared_of.Given as goal

abbrev pub invariant-loop-item : goal.invariant-loop-item
invariant-loop-item l = shared_from (map shared_as l.shared) l.next (drop l.item-index l.items) ≡ shared_of l.items
