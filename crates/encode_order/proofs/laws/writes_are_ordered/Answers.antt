use Rattle.encode_order.proofs.Cells.{ordered_writes}
use Rattle.encode_order.proofs.laws.writes_are_ordered.Goals as goal

pub returns : goal.returns
returns c = ordered_writes
