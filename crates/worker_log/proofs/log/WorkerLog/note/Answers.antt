use Rattle.std.proofs.Common.{List, [], ◌∷◌, ◌++◌, refl, ap, sym, ◌∙◌, subst}
use Rattle.lemma_log.specs.declared.Entry.{Entry}
use Rattle.worker_log.specs.Logs.{LogView}
use Rattle.worker_log.specs.Keeping.{IsLogging}
use Rattle.worker_log.proofs.Noting.{may_append, logged_then, noted}
use Rattle.worker_log.proofs.log.WorkerLog.note.Goals as goal

pub append-ticket-requires-clause-may : goal.append-ticket-requires-clause-may
append-ticket-requires-clause-may c = may_append _ _ _ c.requires.logging c.requires.may

pub share-requires-clause-logged : goal.share-requires-clause-logged
share-requires-clause-logged c = logged_then c.args.seat.now.view c.append-ticket.new.seat.view c.append-ticket.result c.args.lemma (record { ticket = c.append-ticket.result; worker = c.self.inside.number; lemma = c.args.lemma }) c.append-ticket.ensures.log refl refl

pub returns-clause-logging : goal.returns-clause-logging
returns-clause-logging c =
    let w : LogView = record { number = c.self.inside.number; entries = c.self.inside.entries.items; reads = c.self.inside.reads.items } in
    let here = subst (λ (x : LogView). IsLogging x c.args.seat.now.view) (sym c.self.view_is) c.requires.logging in
    let entry : Entry = record { ticket = c.append-ticket.result; worker = c.self.inside.number; lemma = c.args.lemma } in
    let r = noted w c.args.seat.now.view c.append-ticket.result c.args.lemma here c.requires.may c.append-ticket.ensures.fresh c.append-ticket.new.seat.view c.share.new.seat.view entry c.share.result c.append-ticket.ensures.log refl refl c.share.ensures.shared c.share.ensures.room in
    subst (λ (es : List Entry). IsLogging (record { number = c.self.inside.number; entries = es; reads = c.self.inside.reads.items }) c.share.new.seat.view) (sym (c.push_reserved.ensures.items ∙ ap (λ (es : List Entry). es ++ entry ∷ []) c.reserve.ensures.items)) r.0

pub returns-clause-noted : goal.returns-clause-noted
returns-clause-noted c =
    let w : LogView = record { number = c.self.inside.number; entries = c.self.inside.entries.items; reads = c.self.inside.reads.items } in
    let here = subst (λ (x : LogView). IsLogging x c.args.seat.now.view) (sym c.self.view_is) c.requires.logging in
    let entry : Entry = record { ticket = c.append-ticket.result; worker = c.self.inside.number; lemma = c.args.lemma } in
    (noted w c.args.seat.now.view c.append-ticket.result c.args.lemma here c.requires.may c.append-ticket.ensures.fresh c.append-ticket.new.seat.view c.share.new.seat.view entry c.share.result c.append-ticket.ensures.log refl refl c.share.ensures.shared c.share.ensures.room).1
