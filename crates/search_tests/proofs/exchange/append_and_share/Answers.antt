use Rattle.std.proofs.Common.{refl}
use Rattle.search_tests.proofs.Readiness.{logged, ready_append, goes_on}
use Rattle.search_tests.proofs.exchange.append_and_share.Goals as goal

pub append-ticket-requires-clause-one : goal.append-ticket-requires-clause-one
append-ticket-requires-clause-one c = c.requires.ready.one

pub append-ticket-requires-clause-may : goal.append-ticket-requires-clause-may
append-ticket-requires-clause-may c = ready_append _ 0 _ c.requires.ready c.requires.follows

pub share-shared-requires-clause-logged : goal.share-shared-requires-clause-logged
share-shared-requires-clause-logged c = logged c.args.seat.now.view c.append-ticket.new.seat.view c.append-ticket.result c.args.lemma (record { ticket = c.append-ticket.result; worker = c.args.worker; lemma = c.args.lemma }) c.append-ticket.ensures.log refl refl

pub returns-clause-on : goal.returns-clause-on
returns-clause-on c = goes_on _ _ _ _ _ (record { ticket = c.append-ticket.result; worker = c.args.worker; lemma = c.args.lemma }) _ c.append-ticket.ensures.log refl refl c.share-shared.ensures.shared c.share-shared.ensures.room
