use Rattle.clause_exchange.specs.Steps.{mine}
use Rattle.clause_exchange.proofs.exchange.Exchange.offer.Given as goal

abbrev pub ghost-offer_verdict : goal.ghost-offer_verdict
ghost-offer_verdict a = mine a.seat.now.me.0
