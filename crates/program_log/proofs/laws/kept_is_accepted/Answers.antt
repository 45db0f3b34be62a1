use Rattle.program_log.proofs.Safety.{kept_is_accepted}
use Rattle.program_log.proofs.laws.kept_is_accepted.Goals as goal

pub returns : goal.returns
returns c = kept_is_accepted
