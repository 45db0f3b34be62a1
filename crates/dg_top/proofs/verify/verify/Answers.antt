use Rattle.std.proofs.Common.{◌≢◌, [], ◌∷◌, None}
use Rattle.dg_base.specs.declared.refusal.Refusal.TheVariants.{OutOfMemory}
use Rattle.dg_top.specs.Answers.{IsAnswer, IsVerdict, Refused, effort_of, refused, verified}
use Rattle.dg_top.specs.Replies.{IsOneOf, Spells}
use Rattle.dg_top.proofs.Texts.{if_ok}
use Rattle.dg_top.proofs.verify.verify.Goals as goal

pub returns-in-Ok : goal.returns-in-Ok
returns-in-Ok g c =
    let s = c.args.settings.now in
    let text = c.args.text.now in
    let p = c.in-Ok.checked in
    let log = c.args.log.now in
    let witness = c.args.witness.now in
    if_ok c.decide.result (IsOneOf (IsVerdict s.model (effort_of s) p log witness)) (IsOneOf (IsAnswer s (text ∷ []))) (λ r told. record {
      answer = told.answer;
      kept = told.kept;
      allowed = verified text p log witness told.answer told.kept c.requires.job c.in-Ok.ensures.accepted told.allowed;
      spelled = told.spelled;
    }) c.decide.ensures

pub returns-in-Err : goal.returns-in-Err
returns-in-Err g c =
    let e = c.in-Err.refusal in
    if_ok c.refuse.result (λ r. Spells (Refused e) None r × (e ≢ OutOfMemory)) (IsOneOf (IsAnswer c.args.settings.now (c.args.text.now ∷ []))) (λ r told. record {
      answer = Refused e;
      kept = None;
      allowed = refused c.args.text.now [] e (c.in-Err.ensures.refused told.1);
      spelled = told.0;
    }) c.refuse.ensures
