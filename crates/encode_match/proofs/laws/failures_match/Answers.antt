use Rattle.encode_match.proofs.Second.{failures_match}
use Rattle.encode_match.proofs.laws.failures_match.Goals as goal

pub returns : goal.returns
returns c =
    failures_match c.started_threads_are_limited.ensures.low_handles c.started_threads_are_limited.ensures.few c.creates_are_numbered.ensures.whole c.runs_are_framed.ensures.whole
    c.started_creates_differ.ensures.of_two_runs c.started_creates_differ.ensures.of_one_run c.scripts_can_be_taken.ensures c.earlier_parts_stay.ensures
    c.events_are_static.ensures.listed c.events_are_possible.ensures c.actions_are_nodes.ensures.there c.actions_are_nodes.ensures.back c.actions_are_nodes.ensures.ordered c.blocks_are_sections.ensures
    c.choices_can_be_made.ensures
