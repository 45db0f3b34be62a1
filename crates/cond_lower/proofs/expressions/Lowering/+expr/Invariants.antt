use Rattle.std.proofs.Common.{◌≡◌, ◌++◌, map, drop}
use Rattle.cond_lower.specs.Lowering.{lower_expr}
use Rattle.cond_lower.proofs.expressions.Lowering.+expr.Given as goal

abbrev pub invariant-exprs-loop-expr : goal.invariant-exprs-loop-expr
invariant-exprs-loop-expr l = l.list ++ map (lower_expr l.self.wakeups) (drop l.expr-index l.exprs) ≡ map (lower_expr l.self.wakeups) l.exprs
