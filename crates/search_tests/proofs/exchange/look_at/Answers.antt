use Rattle.std.proofs.Common.{refl}
use Rattle.search_tests.proofs.Readiness.{one_after}
use Rattle.search_tests.proofs.exchange.look_at.Goals as goal

pub returns-clause-one : goal.returns-clause-one
returns-clause-one c = (one_after c.args.seat.now.view c.look.new.seat.view _ c.look.ensures.known.2 refl).0

pub returns-clause-number : goal.returns-clause-number
returns-clause-number c = (one_after c.args.seat.now.view c.look.new.seat.view _ c.look.ensures.known.2 refl).1
