use Rattle.std.proofs.Common.{◌≡◌, ◌++◌, drop}
use Rattle.cond_lower.specs.Lowering as lowering
use Rattle.cond_lower.proofs.trees.push_all_sections.Given as goal

abbrev pub invariant-loop-cond : goal.invariant-loop-cond
invariant-loop-cond l = l.items ++ lowering.sections_of (drop l.cond-index l.conds) ≡ l.fn.items ++ lowering.sections_of l.conds
