-- The words have settings, whose job is answered; or they have a fault, which is told.
use Rattle.std.proofs.Common.{◌≡◌, Err, None, sym, subst, ⊎_elim}
use Rattle.word_settings.specs.Settings.{settings_of}
use Rattle.dg_top.specs.Answers.{Allowed, BadWords, IsAnswerOf, bad_words, job_done}
use Rattle.dg_top.specs.Replies.{FetchFails, Replies, files_kept, files_read}
use Rattle.dg_top.proofs.Answered.{bad_keeps}
use Rattle.dg_top.proofs.Outcomes.{always, widened}
use Rattle.dg_top.proofs.Texts.{if_ok}
use Rattle.dg_top.proofs.command.reply_to.Goals as goal

pub returns-in-Ok-clause-replies : goal.returns-in-Ok-clause-replies
returns-in-Ok-clause-replies g c =
    let ws = c.args.words.now in
    let s = c.in-Ok.settings in
    let files = g.D.Desk.files c.args.desk.now in
    if_ok c.answer.result (Replies (IsAnswerOf s) files) (Replies (Allowed ws) files) (λ r. widened (IsAnswerOf s) (Allowed ws) files r (λ fs a kept v. job_done s a kept c.in-Ok.ensures.ok v)) c.answer.ensures.replies

pub returns-in-Ok-clause-fault : goal.returns-in-Ok-clause-fault
returns-in-Ok-clause-fault g c =
    λ e. subst (λ o. FetchFails (files_read o) (g.D.Desk.faults c.args.desk.now) (g.D.Desk.faults c.answer.new.desk)) (sym c.in-Ok.ensures.ok) (c.answer.ensures.fault e)

pub returns-in_ok-bad_words-in-Err-clause-replies : goal.returns-in_ok-bad_words-in-Err-clause-replies
returns-in_ok-bad_words-in-Err-clause-replies g c =
    let told : settings_of c.args.words.now ≡ Err c.in-Err.fault = ⊎_elim (λ e. absurd (c.in_ok-bad_words-in-Err.ensures.1 e)) (λ e. e) c.in-Err.ensures.fault in
    always (Allowed c.args.words.now) (BadWords c.in-Err.fault) None (g.D.Desk.files c.args.desk.now) c.in_ok-bad_words-in-Err.field-0 (λ fs. bad_words c.in-Err.fault told) c.in_ok-bad_words-in-Err.ensures.0

pub returns-in_ok-bad_words-in-Err-clause-keeps : goal.returns-in_ok-bad_words-in-Err-clause-keeps
returns-in_ok-bad_words-in-Err-clause-keeps g c =
    bad_keeps (files_kept (settings_of c.args.words.now)) c.in-Err.fault c.in_ok-bad_words-in-Err.field-0 c.in_ok-bad_words-in-Err.ensures.0
