use Rattle.std.proofs.Common.{◌≡◌, ◌++◌, drop}
use Rattle.cond_lower.specs.Lowering as lowering
use Rattle.cond_lower.proofs.trees.counters.Given as goal

abbrev pub invariant-loop-cond : goal.invariant-loop-cond
invariant-loop-cond l = l.list ++ lowering.counters (drop l.cond-index l.conds) ≡ lowering.counters l.conds
