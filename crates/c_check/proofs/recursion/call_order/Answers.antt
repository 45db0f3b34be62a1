use Rattle.std.proofs.Common.{◌∙◌}
use Rattle.c_check.proofs.Edges.{rows_closed, call_ordered}
use Rattle.c_check.proofs.recursion.call_order.Goals as goal

pub row_order-requires : goal.row_order-requires
row_order-requires c = rows_closed c.args.items.now c.as_slice.result.now (c.as_slice.ensures ∙ c.in-Ok.ensures)

pub returns : goal.returns
returns c =
    let o = rw c.in-Ok-Some.field-0-is at c.in-Ok-Some.ensures in
    call_ordered c.args.items.now _ c.in-Ok-Some.order (c.as_slice.ensures ∙ c.in-Ok.ensures) o
