use Rattle.std.proofs.Common.{◌≡◌, ◌+◌, ◌<◌, List, [], ◌∷◌, ◌++◌, set, ap, sym, ◌∙◌, subst, arith, Some}
use Rattle.dg_base.specs.declared.Lit.{Lit}
use Rattle.clause_exchange.specs.declared.rule.View.{View}
use Rattle.clause_exchange.specs.Steps.{mine, row_of}
use Rattle.worker_log.specs.Newness.{knows}
use Rattle.worker_log.specs.Logs.{LogView}
use Rattle.worker_log.specs.Keeping.{IsLogging, OnlyRow, AreHeard, unread}
use Rattle.worker_log.proofs.Rows.{heard_more}
use Rattle.worker_log.proofs.Hearing.{has_count, logging_read, reads_fit, heard_read, read_row, less_unread, only_row}
use Rattle.worker_log.proofs.log.WorkerLog.read_next.Goals as goal

pub overflow_add-index_mut : goal.overflow_add-index_mut
overflow_add-index_mut c =
    let w : LogView = record { number = c.self.inside.number; entries = c.self.inside.entries.items; reads = c.self.inside.reads.items } in
    let v = c.args.seat.now.view in
    let here = subst (λ (x : LogView). IsLogging x v) (sym c.self.view_is) c.requires.logging in
    let read = c.if-not-read.ensures.read in
    let count = has_count w v c.args.row here c.requires.row _ ∙ ap Some (sym c.index_mut.ensures.value) in
    let few = reads_fit w v c.args.row here c.requires.row read.0 read.1.next c.index_mut.result.now count in
    let small = c.requires.small in
    omega arith

pub returns-in_err-push-clause-logging : goal.returns-in_err-push-clause-logging
returns-in_err-push-clause-logging c =
    let w : LogView = record { number = c.self.inside.number; entries = c.self.inside.entries.items; reads = c.self.inside.reads.items } in
    let v = c.args.seat.now.view in
    let here = subst (λ (x : LogView). IsLogging x v) (sym c.self.view_is) c.requires.logging in
    let read = c.if-not-read.ensures.read in
    let count = has_count w v c.args.row here c.requires.row _ ∙ ap Some (sym c.index_mut.ensures.value) in
    subst (λ (x : View). IsLogging (record { number = c.self.inside.number; entries = c.self.inside.entries.items; reads = set c.self.inside.reads.items c.args.row (c.index_mut.result.now + 1) }) x) (sym read.2)
    (logging_read w v c.args.row here c.requires.row read.0 read.1.next c.index_mut.result.now count)

pub returns-in_err-push-clause-only : goal.returns-in_err-push-clause-only
returns-in_err-push-clause-only c =
    let v = c.args.seat.now.view in
    let read = c.if-not-read.ensures.read in
    subst (λ (x : View). OnlyRow c.args.row (mine v) (mine x)) (sym read.2) (only_row (mine v) c.args.row (read_row v c.args.row read.0))

pub returns-clause-logging : goal.returns-clause-logging
returns-clause-logging c =
    let w : LogView = record { number = c.self.inside.number; entries = c.self.inside.entries.items; reads = c.self.inside.reads.items } in
    let v = c.args.seat.now.view in
    let here = subst (λ (x : LogView). IsLogging x v) (sym c.self.view_is) c.requires.logging in
    let read = c.if-not-read.ensures.read in
    let count = has_count w v c.args.row here c.requires.row _ ∙ ap Some (sym c.index_mut.ensures.value) in
    subst (λ (x : View). IsLogging (record { number = c.self.inside.number; entries = c.self.inside.entries.items; reads = set c.self.inside.reads.items c.args.row (c.index_mut.result.now + 1) }) x) (sym read.2)
    (logging_read w v c.args.row here c.requires.row read.0 read.1.next c.index_mut.result.now count)

pub returns-clause-only : goal.returns-clause-only
returns-clause-only c =
    let v = c.args.seat.now.view in
    let read = c.if-not-read.ensures.read in
    subst (λ (x : View). OnlyRow c.args.row (mine v) (mine x)) (sym read.2) (only_row (mine v) c.args.row (read_row v c.args.row read.0))

pub returns-clause-heard : goal.returns-clause-heard
returns-clause-heard c = λ start h.
    let v = c.args.seat.now.view in
    let read = c.if-not-read.ensures.read in
    let pushed : c.push.new.self ≡ c.args.heard.now ++ read.0.lits ∷ [] = c.in_ok-push.ensures.ok ∙ ap (λ (l : List Lit). c.args.heard.now ++ l ∷ []) read.1.lits in
    subst (λ (l : List (List Lit)). AreHeard v.problem.vars l start (knows (mine c.read.new.seat.view))) (sym pushed)
    (subst (λ (x : View). AreHeard v.problem.vars (c.args.heard.now ++ read.0.lits ∷ []) start (knows (mine x))) (sym read.2)
    (heard_more v.problem.vars c.args.heard.now (read.0.lits ∷ []) start (knows (mine v)) _ h (heard_read c.args.self.now v c.args.row c.requires.logging c.requires.row read.0 read.1.next read.1.over)))

pub returns-clause-more : goal.returns-clause-more
returns-clause-more c =
    let v = c.args.seat.now.view in
    let read = c.if-not-read.ensures.read in
    subst (λ (x : View). unread (row_of (mine x) c.args.row) < unread (row_of (mine v) c.args.row)) (sym read.2) (less_unread c.args.self.now v c.args.row c.requires.logging c.requires.row read.0 read.1.next)
