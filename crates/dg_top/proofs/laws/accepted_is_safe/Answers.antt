use Rattle.dg_top.proofs.Logs.{accepted_is_safe, migrated_is_safe}
use Rattle.dg_top.proofs.laws.accepted_is_safe.Goals as goal

pub returns-clause-accepted : goal.returns-clause-accepted
returns-clause-accepted c = accepted_is_safe c.accepted_is_safe.ensures.accepted c.accepted_is_safe.ensures.migrated c.one_checked.ensures

pub returns-clause-migrated : goal.returns-clause-migrated
returns-clause-migrated c = migrated_is_safe c.accepted_is_safe.ensures.accepted c.accepted_is_safe.ensures.migrated c.one_checked.ensures
