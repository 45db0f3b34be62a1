use Rattle.search_core.proofs.Laws.{sound_after_events, sound_is_kept, no_opposite_offers, verdict_stays}
use Rattle.clause_exchange.proofs.laws.core_holds_after_any_events.Goals as goal

pub returns-clause-sound : goal.returns-clause-sound
returns-clause-sound c = sound_after_events

pub returns-clause-kept : goal.returns-clause-kept
returns-clause-kept c = sound_is_kept

pub returns-clause-offers : goal.returns-clause-offers
returns-clause-offers c = no_opposite_offers

pub returns-clause-stays : goal.returns-clause-stays
returns-clause-stays c = verdict_stays
