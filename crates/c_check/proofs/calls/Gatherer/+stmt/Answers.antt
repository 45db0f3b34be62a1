use Rattle.std.proofs.Common.{arith}
use Rattle.c_check.proofs.Gathering.{next_stmt, end_stmts}
use Rattle.c_check.proofs.calls.Gatherer.+stmt.Goals as goal

pub stmts-loop-stmt-preserved : goal.stmts-loop-stmt-preserved
stmts-loop-stmt-preserved t c =
    next_stmt c.args.self.now.items.now c.args.stmts.now c.loop-stmt.stmt-index c.stmt-item.result c.loop-stmt.into c.stmt.new.into _
    c.loop-stmt-test.true c.stmt-item.is c.in_ok-stmt.ensures c.loop-stmt.invariant

pub stmts-returns : goal.stmts-returns
stmts-returns t c = end_stmts c.args.self.now.items.now c.args.stmts.now c.loop-stmt.stmt-index c.loop-stmt.into _ (omega arith) c.loop-stmt.invariant
