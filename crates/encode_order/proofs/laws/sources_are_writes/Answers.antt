use Rattle.encode_order.proofs.Reading.{is_source}
use Rattle.encode_order.proofs.laws.sources_are_writes.Goals as goal

pub returns : goal.returns
returns c = is_source
