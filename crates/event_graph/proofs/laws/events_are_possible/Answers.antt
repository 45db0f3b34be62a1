use Rattle.event_graph.proofs.Spelled.{events_possible}
use Rattle.event_graph.proofs.laws.events_are_possible.Goals as goal

pub returns : goal.returns
returns c = events_possible
