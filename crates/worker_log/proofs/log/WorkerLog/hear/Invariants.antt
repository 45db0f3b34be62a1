use Rattle.std.proofs.Common.{◌≡◌, ◌+◌, ◌<◌, ◌^◌, false, cond, List, length}
use Rattle.dg_base.specs.declared.Lit.{Lit}
use Rattle.clause_exchange.specs.Spelling.{spelled}
use Rattle.clause_exchange.specs.Seats.{exchange_of}
use Rattle.clause_exchange.specs.Steps.{mine, row_of}
use Rattle.clause_exchange.specs.Calls.{IsOther, IsAllRead}
use Rattle.worker_log.specs.Newness.{knows}
use Rattle.worker_log.specs.Keeping.{IsLogging, OnlyRow, AreHeard, unread}
use Rattle.worker_log.proofs.log.WorkerLog.hear.Given as goal

abbrev pub invariant-loop-more : goal.invariant-loop-more
invariant-loop-more l = record {
  same : exchange_of l.seat ≡ exchange_of l.fn.seat;
  logging : IsLogging l.self l.seat.view;
  row : IsOther l.seat.view l.row;
  small : length (spelled (row_of (mine l.seat.view) l.row).known) < 2 ^ 32;
  only : OnlyRow l.row (mine l.fn.seat.view) (mine l.seat.view);
  looked : (row_of (mine l.seat.view) l.row).log_then ≡ length (mine l.seat.view).log;
  heard : (start : List (List Lit)) → AreHeard l.fn.seat.view.problem.vars l.fn.heard start (knows (mine l.fn.seat.view)) → AreHeard l.fn.seat.view.problem.vars l.heard start (knows (mine l.seat.view));
  done : l.more ≡ false → IsAllRead (row_of (mine l.seat.view) l.row);
}

abbrev pub decreases-loop-more : goal.decreases-loop-more
decreases-loop-more l = unread (row_of (mine l.seat.view) l.row) + cond l.more 1 0
