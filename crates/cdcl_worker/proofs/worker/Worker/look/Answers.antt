use Rattle.std.proofs.Common.{length, ap, arith}
use Rattle.std.proofs.lemmas.Result.{on_ok_weaker}
use Rattle.cdcl_worker.specs.Outcomes.{WorkerView}
use Rattle.cdcl_worker.proofs.Begun.{searching_may, silent_here, few_entries}
use Rattle.cdcl_worker.proofs.worker.Worker.look.Goals as goal

pub overflow_cast-len : goal.overflow_cast-len
overflow_cast-len c =
    let s = c.requires.searching in
    let few = few_entries s.0 s.1 c.args.self.now c.args.seat.now.view s.2 in
    let e = ap (λ (w : WorkerView). length w.log.entries) c.self.view_is in
    let l = c.len.ensures in
    omega arith

pub restart-requires-clause-may : goal.restart-requires-clause-may
restart-requires-clause-may c =
    let s = c.requires.searching in
    (s.0, s.1, searching_may s.0 s.1 c.args.self.now c.args.seat.now.view s.2)

pub returns-then-is_due-clause-recent : goal.returns-then-is_due-clause-recent
returns-then-is_due-clause-recent c = on_ok_weaker c.restart.result (λ h. (let e = h.1 in omega arith)) c.restart.ensures.ground

pub returns-then-is_due-clause-searching : goal.returns-then-is_due-clause-searching
returns-then-is_due-clause-searching c =
    on_ok_weaker c.restart.result (λ h p budget s. h p budget (searching_may p budget c.args.self.now c.args.seat.now.view s)) c.restart.ensures.searching

pub returns-clause-recent : goal.returns-clause-recent
returns-clause-recent c =
    let s = c.requires.searching in
    let long = s.2.going.logging.booked.log.long in
    let e = ap (λ (w : WorkerView). length w.log.entries) c.self.view_is in
    let l = c.len.ensures in
    let since = ap (λ (w : WorkerView). w.since) c.self.view_is in
    let lt = c.is_due.ensures c.if-is_due.false in
    omega arith

pub returns-clause-silent : goal.returns-clause-silent
returns-clause-silent c =
    let s = c.requires.searching in
    silent_here s.0 s.1 c.args.self.now c.args.seat.now.view s.2

pub returns-clause-searching : goal.returns-clause-searching
returns-clause-searching c p budget s = s
