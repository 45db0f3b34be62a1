use Rattle.std.proofs.Common.{◌≡◌, drop}
use Rattle.run_model.specs.Programs.{shared_from, shared_of}
use Rattle.run_model.proofs.table.shared_of.Given as goal

abbrev pub invariant-loop-item : goal.invariant-loop-item
invariant-loop-item l = shared_from l.shared l.next (drop l.item-index l.items) ≡ shared_of l.items
