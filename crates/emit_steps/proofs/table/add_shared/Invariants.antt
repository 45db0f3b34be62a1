use Rattle.std.proofs.Common.{◌≡◌, ◌+◌, drop, map}
use Rattle.c_check.specs.Limits.{cells_of_all}
use Rattle.run_model.specs.Programs.{shared_declared}
use Rattle.emit_steps.specs.Tables.{shared_as}
use Rattle.emit_steps.proofs.table.add_shared.Given as goal

abbrev pub invariant-loop-declarator : goal.invariant-loop-declarator
invariant-loop-declarator l = record {
  list : shared_declared (map shared_as l.shared) l.next l.word (drop l.declarator-index l.declarators) ≡ shared_declared (map shared_as l.fn.shared) l.first l.word l.declarators;
  next : l.next + cells_of_all (drop l.declarator-index l.declarators) ≡ l.first + cells_of_all l.declarators;
}
