use Rattle.clause_exchange.specs.Steps.{mine, row_of}
use Rattle.clause_exchange.proofs.exchange.Exchange.look.Given as goal

abbrev pub ghost-load_count : goal.ghost-load_count
ghost-load_count a = (mine a.seat.now.me.0, row_of (mine a.seat.now.me.0) a.row)
