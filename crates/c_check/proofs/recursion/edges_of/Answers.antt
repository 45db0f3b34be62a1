use Rattle.c_check.proofs.Edges.{next_row}
use Rattle.c_check.proofs.recursion.edges_of.Goals as goal

pub loop-i-preserved : goal.loop-i-preserved
loop-i-preserved c =
    let e = c.in-Ok.ensures in
    next_row c.args.rows.now c.loop-i.i c.in-Ok.from c.index-rows-i.result c.as_slice.result.now c.loop-i.edges c.push_edges.new.edges _
    c.loop-i-test.true c.index-rows-i.is e.1 c.as_slice.ensures c.in_ok-push_edges-in-Ok.ensures c.loop-i.invariant
