use Rattle.worker_log.proofs.Hearing.{HeardTo}
use Rattle.worker_log.proofs.log.WorkerLog.heed.Given as goal

abbrev pub invariant-loop-row : goal.invariant-loop-row
invariant-loop-row l = HeardTo l.fn.seat l.seat l.self l.heard l.row
