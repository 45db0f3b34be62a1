use Rattle.encode_match.proofs.First.{assignments_match}
use Rattle.encode_match.proofs.laws.assignments_match.Goals as goal

pub returns : goal.returns
returns c =
    assignments_match c.started_threads_are_limited.ensures.low_handles c.started_threads_are_limited.ensures.few c.creates_are_numbered.ensures.whole c.runs_are_framed.ensures.whole
    c.events_are_static.ensures.listed c.events_are_possible.ensures c.actions_are_nodes.ensures.there c.actions_are_nodes.ensures.back c.actions_are_nodes.ensures.ordered c.blocks_are_sections.ensures
