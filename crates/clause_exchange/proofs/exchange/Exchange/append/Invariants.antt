use Rattle.clause_exchange.specs.Steps.{mine}
use Rattle.clause_exchange.proofs.exchange.Exchange.append.Given as goal

abbrev pub ghost-append_lemma : goal.ghost-append_lemma
ghost-append_lemma a = mine a.seat.now.me.0
