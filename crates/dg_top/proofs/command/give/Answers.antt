-- What keeping and printing left is the outcome.
use Rattle.std.proofs.Common.{Err, Ok, Option, List, ap, subst, sym}
use Rattle.std.specs.Prelude.{option_map}
use Rattle.dg_base.specs.declared.outside.FileEntry.{FileEntry}
use Rattle.dg_base.specs.declared.outside.Trouble.TheVariants.{Failed, OutOfMemory}
use Rattle.dg_base.specs.Outside.{Changes, Prints}
use Rattle.dg_top.specs.Outcomes.{HasKept}
use Rattle.dg_top.specs.Replies.{kept_of}
use Rattle.dg_top.proofs.Files.{no_ok}
use Rattle.dg_top.proofs.Outcomes.{keep_fails, kept_and_printed_nothing, kept_nothing, printed_nothing, printed_part, printed_whole, unchanged}
use Rattle.dg_top.proofs.command.give.Goals as goal

pub returns-in-Err-Failed-clause-outcome : goal.returns-in-Err-Failed-clause-outcome
returns-in-Err-Failed-clause-outcome g c =
    λ ws p. kept_nothing ws (g.D.Desk.files c.keep.new.desk) (g.D.Desk.printed c.args.desk.now) (g.D.Desk.printed c.keep.new.desk) (g.D.Desk.files c.args.desk.now) c.args.reply.now p (λ none. no_ok tt c.in-Err-Failed.field-0 (sym (c.in-Err-Failed.ensures.nothing none).0))
    c.in-Err-Failed.ensures.left (unchanged (g.D.Desk.printed c.args.desk.now) (g.D.Desk.printed c.keep.new.desk) c.in-Err-Failed.ensures.printed)

pub returns-in-Err-Failed-clause-fault : goal.returns-in-Err-Failed-clause-fault
returns-in-Err-Failed-clause-fault g c =
    λ names k e. keep_fails names c.args.reply.now (g.D.Desk.faults c.args.desk.now) (g.D.Desk.faults c.keep.new.desk) (λ none. no_ok tt c.in-Err-Failed.field-0 (sym (c.in-Err-Failed.ensures.nothing none).0))
    k (c.in-Err-Failed.ensures.fault (ap Err c.in-Err-Failed.field-0-is))

pub returns-in-Err-OutOfMemory-clause-outcome : goal.returns-in-Err-OutOfMemory-clause-outcome
returns-in-Err-OutOfMemory-clause-outcome g c =
    λ ws p. printed_nothing ws (g.D.Desk.files c.keep.new.desk) (g.D.Desk.printed c.args.desk.now) (g.D.Desk.printed c.keep.new.desk) (g.D.Desk.files c.args.desk.now) c.args.reply.now p
    c.in-Err-OutOfMemory.ensures.left (unchanged (g.D.Desk.printed c.args.desk.now) (g.D.Desk.printed c.keep.new.desk) c.in-Err-OutOfMemory.ensures.printed)

pub returns-in-Ok-print-clause-outcome : goal.returns-in-Ok-print-clause-outcome
returns-in-Ok-print-clause-outcome g c =
    λ ws p. printed_whole ws (g.D.Desk.files c.print.new.self) (g.D.Desk.printed c.args.desk.now) (g.D.Desk.printed c.print.new.self) (g.D.Desk.files c.args.desk.now) c.args.reply.now p
    (subst (λ (o : Option (List FileEntry)). Changes (HasKept (option_map kept_of c.args.reply.now.kept)) (g.D.Desk.files c.args.desk.now) o) (sym c.in-Ok-print.ensures.files) c.in-Ok.ensures.kept)
    (subst (λ o. Changes (Prints c.args.reply.now.text.items (Ok tt)) o (g.D.Desk.printed c.print.new.self)) c.in-Ok.ensures.printed
    (subst (λ bytes. Changes (Prints bytes (Ok tt)) (g.D.Desk.printed c.keep.new.desk) (g.D.Desk.printed c.print.new.self)) c.as_slice.ensures.value c.in-Ok-print.ensures.printed))

pub returns-in-Err-Failed-print-clause-outcome : goal.returns-in-Err-Failed-print-clause-outcome
returns-in-Err-Failed-print-clause-outcome g c =
    λ ws p. printed_part ws (g.D.Desk.files c.print.new.self) (g.D.Desk.printed c.args.desk.now) (g.D.Desk.printed c.print.new.self) (g.D.Desk.files c.args.desk.now) c.args.reply.now p
    (subst (λ (o : Option (List FileEntry)). Changes (HasKept (option_map kept_of c.args.reply.now.kept)) (g.D.Desk.files c.args.desk.now) o) (sym c.in-Err-Failed-print.ensures.files) c.in-Ok.ensures.kept)
    (subst (λ o. Changes (Prints c.args.reply.now.text.items (Err Failed)) o (g.D.Desk.printed c.print.new.self)) c.in-Ok.ensures.printed
    (subst (λ t. Changes (Prints c.args.reply.now.text.items (Err t)) (g.D.Desk.printed c.keep.new.desk) (g.D.Desk.printed c.print.new.self)) c.in-Err-Failed-print.field-0-is
    (subst (λ bytes. Changes (Prints bytes (Err c.in-Err-Failed-print.field-0)) (g.D.Desk.printed c.keep.new.desk) (g.D.Desk.printed c.print.new.self)) c.as_slice.ensures.value c.in-Err-Failed-print.ensures.printed)))

pub returns-in-Err-OutOfMemory-print-clause-outcome : goal.returns-in-Err-OutOfMemory-print-clause-outcome
returns-in-Err-OutOfMemory-print-clause-outcome g c =
    λ ws p. kept_and_printed_nothing ws (g.D.Desk.files c.print.new.self) (g.D.Desk.printed c.args.desk.now) (g.D.Desk.printed c.print.new.self) (g.D.Desk.files c.args.desk.now) c.args.reply.now p
    (subst (λ (o : Option (List FileEntry)). Changes (HasKept (option_map kept_of c.args.reply.now.kept)) (g.D.Desk.files c.args.desk.now) o) (sym c.in-Err-OutOfMemory-print.ensures.files) c.in-Ok.ensures.kept)
    (subst (λ o. Changes (Prints c.as_slice.result.now (Err OutOfMemory)) o (g.D.Desk.printed c.print.new.self)) c.in-Ok.ensures.printed
    (subst (λ t. Changes (Prints c.as_slice.result.now (Err t)) (g.D.Desk.printed c.keep.new.desk) (g.D.Desk.printed c.print.new.self)) c.in-Err-OutOfMemory-print.field-0-is c.in-Err-OutOfMemory-print.ensures.printed))
