-- What giving the reply left is the outcome.
use Rattle.std.proofs.Common.{subst, ⊎_elim}
use Rattle.dg_base.specs.declared.outside.Trouble.TheVariants.{Failed}
use Rattle.dg_base.specs.Outside.{Faults, Unchanged}
use Rattle.word_settings.specs.Settings.{settings_of}
use Rattle.dg_top.specs.Replies.{OutputFails, files_kept}
use Rattle.dg_top.proofs.Files.{no_ok}
use Rattle.dg_top.proofs.Outcomes.{memory_outcome, not_five, reply_small, run_known, unfetched_outcome}
use Rattle.dg_top.proofs.command.run.Goals as goal

pub give-requires : goal.give-requires
give-requires g c = record { status = reply_small c.args.words.now (g.D.Desk.files c.args.desk.now) c.in-Ok.reply c.in-Ok.ensures.replies }

pub returns-in-Ok-clause-quiet : goal.returns-in-Ok-clause-quiet
returns-in-Ok-clause-quiet g c =
    let small = reply_small c.args.words.now (g.D.Desk.files c.args.desk.now) c.in-Ok.reply c.in-Ok.ensures.replies in
    ⊎_elim (λ e. absurd (not_five c.in-Ok.reply c.give.result small c.give.ensures.status e))
    (λ e. subst (λ o. Unchanged o (g.D.Desk.printed c.give.new.desk)) c.in-Ok.ensures.printed (c.give.ensures.quiet e))

pub returns-in-Ok-clause-fetch_fault : goal.returns-in-Ok-clause-fetch_fault
returns-in-Ok-clause-fetch_fault g c =
    let small = reply_small c.args.words.now (g.D.Desk.files c.args.desk.now) c.in-Ok.reply c.in-Ok.ensures.replies in
    λ e. absurd (not_five c.in-Ok.reply c.give.result small c.give.ensures.status e)

pub returns-in-Ok-clause-output_fault : goal.returns-in-Ok-clause-output_fault
returns-in-Ok-clause-output_fault g c =
    let names = files_kept (settings_of c.args.words.now) in
    λ e. subst (λ (f : Faults). OutputFails names f (g.D.Desk.faults c.give.new.desk)) (c.in-Ok.ensures.no_fault (no_ok c.in-Ok.reply Failed)) (c.give.ensures.fault names c.in-Ok.ensures.keeps e)

pub returns-in-Ok-clause-known : goal.returns-in-Ok-clause-known
returns-in-Ok-clause-known g c = run_known c.args.words.now (g.D.Desk.files c.args.desk.now) c.in-Ok.reply c.give.result c.in-Ok.ensures.replies c.give.ensures.status

pub returns-in-Err-Failed-clause-outcome : goal.returns-in-Err-Failed-clause-outcome
returns-in-Err-Failed-clause-outcome g c =
    unfetched_outcome c.args.words.now (g.D.Desk.files c.reply_to.new.desk) (g.D.Desk.printed c.args.desk.now) (g.D.Desk.printed c.reply_to.new.desk) (g.D.Desk.files c.args.desk.now)
    c.in-Err-Failed.ensures.files c.in-Err-Failed.ensures.printed

pub returns-in-Err-OutOfMemory-clause-outcome : goal.returns-in-Err-OutOfMemory-clause-outcome
returns-in-Err-OutOfMemory-clause-outcome g c =
    memory_outcome c.args.words.now (g.D.Desk.files c.reply_to.new.desk) (g.D.Desk.printed c.args.desk.now) (g.D.Desk.printed c.reply_to.new.desk) (g.D.Desk.files c.args.desk.now)
    c.in-Err-OutOfMemory.ensures.files c.in-Err-OutOfMemory.ensures.printed
