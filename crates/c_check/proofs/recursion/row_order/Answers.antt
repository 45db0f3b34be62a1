use Rattle.std.proofs.Common.{◌∙◌}
use Rattle.c_check.proofs.Edges.{rows_ordered}
use Rattle.c_check.proofs.recursion.row_order.Goals as goal

pub returns-in-Sorted : goal.returns-in-Sorted
returns-in-Sorted c =
    let k = c.in-Ok.ensures in
    rows_ordered c.args.rows.now c.as_slice.result.now c.in-Ok.nodes c.in-Sorted.order c.in_ok-order.field-0 c.in-Sorted.is k.1
    (c.as_slice.ensures ∙ c.in_ok-edges.ensures) c.in_ok-order.ensures.answer
