use Rattle.encode_order.proofs.Before.{clauses_hold}
use Rattle.encode_order.proofs.laws.clauses_hold.Goals as goal

pub returns : goal.returns
returns c = clauses_hold
