use Rattle.std.proofs.Common.{◌≡◌, ◌++◌, drop}
use Rattle.cond_lower.specs.Lowering as lowering
use Rattle.cond_lower.proofs.expressions.Lowering.all_sections.Given as goal

abbrev pub invariant-loop-item : goal.invariant-loop-item
invariant-loop-item l = l.items ++ lowering.all_sections (drop l.item-index l.text) ≡ l.fn.items ++ lowering.all_sections l.text
