use Rattle.encode_order.proofs.Reading.{one_source}
use Rattle.encode_order.proofs.laws.sources_are_single.Goals as goal

pub returns : goal.returns
returns c = one_source
