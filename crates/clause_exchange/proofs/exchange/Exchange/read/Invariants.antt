use Rattle.clause_exchange.specs.Steps.{mine, row_of}
use Rattle.clause_exchange.proofs.Tying.{next_of}
use Rattle.clause_exchange.proofs.exchange.Exchange.read.Given as goal

abbrev pub ghost-read_entry : goal.ghost-read_entry
ghost-read_entry a = ((mine a.seat.now.me.0, row_of (mine a.seat.now.me.0) a.row), next_of a.loaded (row_of (mine a.seat.now.me.0) a.row).known)
