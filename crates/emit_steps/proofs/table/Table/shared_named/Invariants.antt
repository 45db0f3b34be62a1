use Rattle.std.proofs.Common.{◌≡◌, drop, map}
use Rattle.run_model.specs.Cells.{shared_named}
use Rattle.emit_steps.specs.Tables.{shared_as}
use Rattle.emit_steps.proofs.table.Table.shared_named.Given as goal

abbrev pub invariant-loop-shared : goal.invariant-loop-shared
invariant-loop-shared l = shared_named (map shared_as (drop l.shared-index l.self.shared.now)) l.name ≡ shared_named (map shared_as l.self.shared.now) l.name
