use Rattle.std.proofs.Common.{◌≡◌, ◌++◌, drop}
use Rattle.cond_lower.specs.Lowering as lowering
use Rattle.cond_lower.proofs.expressions.Lowering.items.Given as goal

abbrev pub invariant-loop-item : goal.invariant-loop-item
invariant-loop-item l = l.items ++ lowering.lower_items l.self.wakeups (drop l.item-index l.text) ≡ l.fn.items ++ lowering.lower_items l.self.wakeups l.text
