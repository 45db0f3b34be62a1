use Rattle.event_graph.proofs.Sections.{blocks_sections}
use Rattle.event_graph.proofs.laws.blocks_are_sections.Goals as goal

pub returns : goal.returns
returns c = blocks_sections
