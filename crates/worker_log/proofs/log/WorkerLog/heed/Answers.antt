use Rattle.std.proofs.Common.{◌+◌, List, refl, ap, sym, subst, arith}
use Rattle.dg_base.specs.declared.Lit.{Lit}
use Rattle.clause_exchange.specs.Seats.{SeatState}
use Rattle.clause_exchange.specs.Steps.{mine}
use Rattle.worker_log.specs.Newness.{knows}
use Rattle.worker_log.specs.Logs.{LogView}
use Rattle.worker_log.specs.Keeping.{AreHeard}
use Rattle.worker_log.proofs.Rows.{heard_none}
use Rattle.worker_log.proofs.Hearing.{HeardTo, logging_begun, only_same, heard_row, heard_own}
use Rattle.worker_log.proofs.log.WorkerLog.heed.Goals as goal
use Rattle.worker_log.proofs.log.WorkerLog.heed.Goals.{then-row-self+in_ok-hear, else-row-self}

pub loop-row-init : goal.loop-row-init
loop-row-init c =
    let v = c.args.seat.now.view in
    record {
      same = refl;
      logging = logging_begun c.args.self.now v c.workers-workers.ensures.numbers c.requires.logging;
      only = only_same (mine v);
      heeded = λ j r lt at. absurd (omega arith);
      heard = subst (λ (l : List (List Lit)). AreHeard v.problem.vars l (knows (mine v)) (knows (mine v))) (sym c.new-heard.ensures) (heard_none v.problem.vars (knows (mine v)));
    }

pub loop-row-preserved : goal.loop-row-preserved
loop-row-preserved c =
    let start = c.args.seat.now in
    let row = c.loop-row.row in
    elim c.if-row-self.branch [
      | then-row-self+in_ok-hear w ↦
          subst (λ (s : SeatState). HeardTo start s c.if-row-self.self c.if-row-self.heard (row + 1)) (sym w.seat-is)
          (subst (λ (x : LogView). HeardTo start w.hear.new.seat x c.if-row-self.heard (row + 1)) (sym w.self-is)
          (subst (λ (l : List (List Lit)). HeardTo start w.hear.new.seat w.hear.new.self l (row + 1)) (sym w.heard-is)
          (heard_row start c.loop-row.seat w.hear.new.seat c.loop-row.self w.hear.new.self c.loop-row.heard w.hear.new.heard row c.loop-row.invariant w.hear.ensures.same w.hear.ensures.logging w.hear.ensures.only w.in_ok-hear.ensures.heard w.in_ok-hear.ensures.heeded)))
      | else-row-self w ↦
          subst (λ (s : SeatState). HeardTo start s c.if-row-self.self c.if-row-self.heard (row + 1)) (sym w.seat-is)
          (subst (λ (x : LogView). HeardTo start c.loop-row.seat x c.if-row-self.heard (row + 1)) (sym w.self-is)
          (subst (λ (l : List (List Lit)). HeardTo start c.loop-row.seat c.loop-row.self l (row + 1)) (sym w.heard-is)
          (heard_own start c.loop-row.seat c.loop-row.self c.loop-row.heard row c.loop-row.invariant (let number = ap (λ (x : LogView). x.number) c.self.view_is in omega (arith, w.if-row-self.false)))))
    ]
