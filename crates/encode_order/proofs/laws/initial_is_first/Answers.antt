use Rattle.encode_order.proofs.Cells.{first_initial}
use Rattle.encode_order.proofs.laws.initial_is_first.Goals as goal

pub returns : goal.returns
returns c = first_initial
