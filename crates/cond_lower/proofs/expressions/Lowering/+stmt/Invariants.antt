use Rattle.std.proofs.Common.{◌≡◌, ◌++◌, map, drop}
use Rattle.cond_lower.specs.Lowering as lowering
use Rattle.cond_lower.proofs.expressions.Lowering.+stmt.Given as goal

abbrev pub invariant-stmts-loop-stmt : goal.invariant-stmts-loop-stmt
invariant-stmts-loop-stmt l = l.list ++ map (lowering.lower_stmt l.self.wakeups) (drop l.stmt-index l.stmts) ≡ map (lowering.lower_stmt l.self.wakeups) l.stmts
