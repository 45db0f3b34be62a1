use Rattle.encode_order.proofs.Before.{two_writes}
use Rattle.encode_order.proofs.laws.atoms_order_writes.Goals as goal

pub returns : goal.returns
returns c = two_writes
