use Rattle.clause_exchange.specs.Steps.{mine}
use Rattle.clause_exchange.proofs.exchange.Exchange.share.Given as goal

abbrev pub ghost-share_entry : goal.ghost-share_entry
ghost-share_entry a = mine a.seat.now.me.0
