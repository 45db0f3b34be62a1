use Rattle.std.proofs.Common.{arith}
use Rattle.c_check.proofs.Gathering.{next_expr, end_exprs}
use Rattle.c_check.proofs.calls.Gatherer.+expr.Goals as goal

pub exprs-loop-expr-preserved : goal.exprs-loop-expr-preserved
exprs-loop-expr-preserved t c =
    next_expr c.args.self.now.items.now c.args.exprs.now c.loop-expr.expr-index c.expr-item.result c.loop-expr.into c.expr.new.into _
    c.loop-expr-test.true c.expr-item.is c.in_ok-expr.ensures c.loop-expr.invariant

pub exprs-returns : goal.exprs-returns
exprs-returns t c = end_exprs c.args.self.now.items.now c.args.exprs.now c.loop-expr.expr-index c.loop-expr.into _ (omega arith) c.loop-expr.invariant
