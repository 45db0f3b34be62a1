use Rattle.c_check.proofs.Tables.{table_begins, table_next, table_ends}
use Rattle.c_check.proofs.function_counts.fill.Goals as goal

pub loop-left-init : goal.loop-left-init
loop-left-init c = table_begins c.args.k c.args.items.now c.args.order.now c.in_ok-table.table c.in_ok-table.ensures

pub loop-left-preserved : goal.loop-left-preserved
loop-left-preserved c =
    table_next c.args.k c.args.items.now c.args.order.now c.loop-left.table c.as_slice.result.now c.set.new.self c.loop-left.left c.in_ok-counts.counts
    c.loop-left-test.true c.requires.order c.loop-left.invariant c.as_slice.ensures c.in_ok-counts.ensures c.set.ensures

pub returns : goal.returns
returns c = table_ends c.args.k c.args.items.now c.args.order.now c.loop-left.table c.loop-left.left c.loop-left-test.false c.loop-left.invariant
