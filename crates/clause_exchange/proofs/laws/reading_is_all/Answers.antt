use Rattle.clause_exchange.proofs.CallLaws.{reading_is_all_law}
use Rattle.clause_exchange.proofs.laws.reading_is_all.Goals as goal

pub returns : goal.returns
returns c = reading_is_all_law
