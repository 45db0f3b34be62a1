use Rattle.std.proofs.Common.{◌≢◌, [], ◌∷◌, None}
use Rattle.dg_base.specs.declared.refusal.Refusal.TheVariants.{OutOfMemory}
use Rattle.dg_top.specs.Answers.{IsAnswer, OfLog, Refused, checked, refused}
use Rattle.dg_top.specs.Replies.{IsOneOf, Spells}
use Rattle.dg_top.proofs.Texts.{if_ok}
use Rattle.dg_top.proofs.check.check.Goals as goal

pub returns-in_ok-answer-in-Ok : goal.returns-in_ok-answer-in-Ok
returns-in_ok-answer-in-Ok c =
    let s = c.args.settings.now in
    let text = c.args.text.now in
    let log = c.args.log.now in
    let a = c.in_ok-answer-in-Ok.answer in
    if_ok c.of_log.result (Spells (OfLog a) None) (IsOneOf (IsAnswer s (text ∷ log ∷ []))) (λ r told. record {
      answer = OfLog a;
      kept = None;
      allowed = checked text log c.in-Ok.checked a c.requires.job c.in-Ok.ensures.accepted c.in_ok-answer-in-Ok.ensures;
      spelled = told;
    }) c.of_log.ensures

pub returns-in-Err : goal.returns-in-Err
returns-in-Err c =
    let e = c.in-Err.refusal in
    let texts = c.args.text.now ∷ c.args.log.now ∷ [] in
    if_ok c.refuse.result (λ r. Spells (Refused e) None r × (e ≢ OutOfMemory)) (IsOneOf (IsAnswer c.args.settings.now texts)) (λ r told. record {
      answer = Refused e;
      kept = None;
      allowed = refused c.args.text.now (c.args.log.now ∷ []) e (c.in-Err.ensures.refused told.1);
      spelled = told.0;
    }) c.refuse.ensures
