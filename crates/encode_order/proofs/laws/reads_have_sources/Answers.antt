use Rattle.encode_order.proofs.Reading.{has_source}
use Rattle.encode_order.proofs.laws.reads_have_sources.Goals as goal

pub returns : goal.returns
returns c = has_source
