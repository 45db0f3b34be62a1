use Rattle.dg_top.proofs.Excludes.{safe_excludes}
use Rattle.dg_top.proofs.laws.safe_excludes_unsafe.Goals as goal

pub returns : goal.returns
returns c = safe_excludes c.one_checked.ensures
