use Rattle.encode_match.proofs.HoldingGraphs.{graphs_hold}
use Rattle.encode_match.proofs.Whole.{encodes}
use Rattle.encode_match.proofs.laws.chain_encodes.Goals as goal

pub returns : goal.returns
returns c = encodes (graphs_hold c.events_are_static.ensures.listed c.events_are_possible.ensures) c.assignments_match.ensures c.failures_match.ensures
