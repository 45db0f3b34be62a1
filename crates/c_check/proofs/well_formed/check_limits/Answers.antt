use Rattle.c_check.proofs.Limiting.{exceeds_by_counts}
use Rattle.c_check.proofs.well_formed.check_limits.Goals as goal

pub returns-in-Some : goal.returns-in-Some
returns-in-Some c =
    exceeds_by_counts c.args.k c.args.program.now c.as_slice-items.result.now c.in-Ok.counts c.in-Some.limit c.as_slice-items.ensures c.in-Ok.ensures c.in-Some.ensures
