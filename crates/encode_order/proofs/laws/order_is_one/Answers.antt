use Rattle.encode_order.proofs.Cells.{one_order}
use Rattle.encode_order.proofs.laws.order_is_one.Goals as goal

pub returns : goal.returns
returns c = one_order
