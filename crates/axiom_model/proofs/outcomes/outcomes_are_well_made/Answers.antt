use Rattle.std.proofs.Common.{refl}
use Rattle.axiom_model.specs.Outcomes as outcomes
use Rattle.axiom_model.proofs.Fitting.{fits-well_made}
use Rattle.axiom_model.proofs.outcomes.outcomes_are_well_made.Goals as goal

pub returns-clause-store_buffering : goal.returns-clause-store_buffering
returns-clause-store_buffering c = fits-well_made outcomes.shape outcomes.store_buffering refl

pub returns-clause-fenced_store_buffering : goal.returns-clause-fenced_store_buffering
returns-clause-fenced_store_buffering c = fits-well_made outcomes.shape outcomes.fenced_store_buffering refl

pub returns-clause-store_forwarding : goal.returns-clause-store_forwarding
returns-clause-store_forwarding c = fits-well_made outcomes.shape outcomes.store_forwarding refl

pub returns-clause-message_passing : goal.returns-clause-message_passing
returns-clause-message_passing c = fits-well_made outcomes.shape outcomes.message_passing refl

pub returns-clause-two_plus_two_writes : goal.returns-clause-two_plus_two_writes
returns-clause-two_plus_two_writes c = fits-well_made outcomes.shape outcomes.two_plus_two_writes refl

pub returns-clause-load_buffering : goal.returns-clause-load_buffering
returns-clause-load_buffering c = fits-well_made outcomes.shape outcomes.load_buffering refl

pub returns-clause-independent_reads : goal.returns-clause-independent_reads
returns-clause-independent_reads c = fits-well_made outcomes.shape outcomes.independent_reads refl

pub returns-clause-read_read_coherence : goal.returns-clause-read_read_coherence
returns-clause-read_read_coherence c = fits-well_made outcomes.shape outcomes.read_read_coherence refl

pub returns-clause-write_read_coherence : goal.returns-clause-write_read_coherence
returns-clause-write_read_coherence c = fits-well_made outcomes.shape outcomes.write_read_coherence refl

pub returns-clause-write_write_coherence : goal.returns-clause-write_write_coherence
returns-clause-write_write_coherence c = fits-well_made outcomes.shape outcomes.write_write_coherence refl

pub returns-clause-stale_after_create : goal.returns-clause-stale_after_create
returns-clause-stale_after_create c = fits-well_made outcomes.shape outcomes.stale_after_create refl

pub returns-clause-stale_after_join : goal.returns-clause-stale_after_join
returns-clause-stale_after_join c = fits-well_made outcomes.shape outcomes.stale_after_join refl

pub returns-clause-peeked_section : goal.returns-clause-peeked_section
returns-clause-peeked_section c = fits-well_made outcomes.shape outcomes.peeked_section refl

pub returns-clause-open_section : goal.returns-clause-open_section
returns-clause-open_section c = fits-well_made outcomes.shape outcomes.open_section refl
