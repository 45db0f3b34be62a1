use Rattle.std.proofs.Common.{[], ap, ◌∙◌}
use Rattle.word_settings.specs.Settings.{file_count}
use Rattle.dg_top.proofs.Answered.{one_keeps, one_status}
use Rattle.dg_top.proofs.Files.{no_file}
use Rattle.dg_top.proofs.command.answer.Goals as goal

pub returns-in_ok-make-in-Make-clause-replies : goal.returns-in_ok-make-in-Make-clause-replies
returns-in_ok-make-in-Make-clause-replies g c =
    no_file c.args.settings.now (g.D.Desk.files c.args.desk.now) c.in_ok-make-in-Make.field-0 (c.requires.count ∙ ap file_count c.in-Make.is) c.in_ok-make-in-Make.ensures

pub returns-in_ok-make-in-Make-clause-status : goal.returns-in_ok-make-in-Make-clause-status
returns-in_ok-make-in-Make-clause-status g c = one_status c.args.settings.now [] c.in_ok-make-in-Make.field-0 c.in_ok-make-in-Make.ensures

pub returns-in_ok-make-in-Make-clause-keeps : goal.returns-in_ok-make-in-Make-clause-keeps
returns-in_ok-make-in-Make-clause-keeps g c = one_keeps c.args.settings.now [] c.in_ok-make-in-Make.field-0 c.in_ok-make-in-Make.ensures
