use Rattle.std.proofs.Common.{◌≡◌, List, ◌++◌, drop, length}
use Rattle.flat_prog.specs.declared.Instance.{Instance}
use Rattle.emit_steps.specs.Tables.{setting_at}
use Rattle.loop_unroll.specs.Whole.{AreQueued, AreInstances}
use Rattle.loop_unroll.proofs.whole.instances_of.Given as goal

abbrev pub invariant-loop-n : goal.invariant-loop-n
invariant-loop-n l = record {
  queued : (rest : List Instance) → AreQueued (setting_at l.table) (length l.functions) (drop l.n l.functions) rest → AreInstances (setting_at l.table) l.main (l.instances ++ rest);
  count : length l.instances ≡ l.n;
}
