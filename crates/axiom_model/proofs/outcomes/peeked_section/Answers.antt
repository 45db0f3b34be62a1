use Rattle.axiom_model.proofs.Rows.{peeked_section-no_event_cycle, peeked_section_all}
use Rattle.axiom_model.proofs.outcomes.peeked_section.Goals as goal

pub returns-clause-events : goal.returns-clause-events
returns-clause-events c = peeked_section-no_event_cycle

pub returns-clause-blocks : goal.returns-clause-blocks
returns-clause-blocks c = peeked_section_all
