use Rattle.std.proofs.Common.{◌≡◌, drop}
use Rattle.run_model.specs.Cells.{shared_named}
use Rattle.run_model.proofs.table.Table.shared_named.Given as goal

abbrev pub invariant-loop-shared : goal.invariant-loop-shared
invariant-loop-shared l = shared_named (drop l.shared-index l.self.shared.now) l.name ≡ shared_named l.self.shared.now l.name
