use Rattle.full_bound.proofs.CutRuns.{thread_can_end, cut_run_can_end}
use Rattle.full_bound.proofs.laws.cut_runs_can_end.Goals as goal

pub returns-clause-from_start : goal.returns-clause-from_start
returns-clause-from_start c = λ p d f handle arg checked constants it. thread_can_end p f handle arg d checked constants it

pub returns-clause-from_cut : goal.returns-clause-from_cut
returns-clause-from_cut c = λ p d f handle arg script r checked constants it w e n low closed. cut_run_can_end p f handle arg d checked constants it script r w e n low closed
