use Rattle.clause_exchange.specs.Steps.{mine}
use Rattle.clause_exchange.proofs.exchange.Exchange.verdict.Given as goal

abbrev pub ghost-load_verdict : goal.ghost-load_verdict
ghost-load_verdict a = mine a.seat.now.me.0
