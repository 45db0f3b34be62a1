use Rattle.std.proofs.Common.{[], None, ap, ◌∙◌}
use Rattle.word_settings.specs.declared.settings.Job.TheVariants.{Make}
use Rattle.dg_top.specs.Answers.{IsAnswer, Made, made}
use Rattle.dg_top.specs.Replies.{IsOneOf, Spells}
use Rattle.dg_top.proofs.Texts.{if_ok}
use Rattle.dg_top.proofs.make.make.Goals as goal

pub returns-else-run : goal.returns-else-run
returns-else-run g c =
    let s = c.args.settings.now in
    let n = c.args.number in
    if_ok c.made.result (Spells (Made n) None) (IsOneOf (IsAnswer s [])) (λ r spelled. record {
      answer = Made n;
      kept = None;
      allowed = made n (c.requires.job ∙ ap (Make n) c.if-run.false);
      spelled = spelled;
    }) c.made.ensures
