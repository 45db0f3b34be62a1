use Rattle.worker_log.proofs.Spending.{spent_shown}
use Rattle.worker_log.proofs.laws.spent_is_shown.Goals as goal

pub returns : goal.returns
returns c = spent_shown
