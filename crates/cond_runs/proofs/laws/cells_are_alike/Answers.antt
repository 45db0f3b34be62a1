use Rattle.cond_runs.proofs.Adding.{shared_alike, cells_alike, functions_alike}
use Rattle.cond_runs.proofs.laws.cells_are_alike.Goals as goal

pub returns : goal.returns
returns c = record { shared = shared_alike; cells = cells_alike; functions = functions_alike }
