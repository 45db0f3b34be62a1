use Rattle.event_graph.proofs.Static.{events_static}
use Rattle.event_graph.proofs.Values.{have_bits, events_over}
use Rattle.event_graph.proofs.laws.events_are_static.Goals as goal

pub returns-clause-listed : goal.returns-clause-listed
returns-clause-listed c = events_static

pub returns-clause-valued : goal.returns-clause-valued
returns-clause-valued c = have_bits

pub returns-clause-over : goal.returns-clause-over
returns-clause-over c = events_over
