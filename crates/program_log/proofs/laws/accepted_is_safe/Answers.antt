use Rattle.program_log.proofs.Safety.{accepted_is_safe, migrated_is_safe}
use Rattle.program_log.proofs.laws.accepted_is_safe.Goals as goal

pub returns-clause-accepted : goal.returns-clause-accepted
returns-clause-accepted c = accepted_is_safe c.chain_encodes.ensures c.encodings_decide.ensures.without c.refuted_has_no_assignment.ensures c.hints_are_chains.ensures.good

pub returns-clause-migrated : goal.returns-clause-migrated
returns-clause-migrated c = migrated_is_safe c.chain_encodes.ensures c.encodings_decide.ensures.without c.refuted_has_no_assignment.ensures c.hints_are_chains.ensures.good
