use Rattle.dg_top.proofs.Excludes.{is_replayed}
use Rattle.dg_top.proofs.laws.unsafe_is_replayed.Goals as goal

pub returns : goal.returns
returns c = is_replayed
