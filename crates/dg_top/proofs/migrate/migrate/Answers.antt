use Rattle.std.proofs.Common.{◌≢◌, [], ◌∷◌, None}
use Rattle.dg_base.specs.declared.refusal.Refusal.TheVariants.{OutOfMemory}
use Rattle.dg_top.specs.Answers.{IsAnswer, IsMigrated, Refused, migrated, refused}
use Rattle.dg_top.specs.Replies.{IsOneOf, Spells}
use Rattle.dg_top.proofs.Outcomes.{one_of}
use Rattle.dg_top.proofs.Texts.{if_ok}
use Rattle.dg_top.proofs.migrate.migrate.Goals as goal

pub returns-in-Ok : goal.returns-in-Ok
returns-in-Ok c =
    let s = c.args.settings.now in
    let text = c.args.text.now in
    let old = c.args.old.now in
    let new = c.args.new.now in
    let p = c.in-Ok.checked in
    let texts = text ∷ old ∷ [] in
    if_ok c.migrate_log.result (IsOneOf (IsMigrated s.model p old new)) (IsOneOf (IsAnswer s texts)) (λ r. one_of (IsMigrated s.model p old new) (IsAnswer s texts) r
    (λ a kept m. migrated text old p new a kept c.requires.job c.in-Ok.ensures.accepted m)) c.migrate_log.ensures

pub returns-in-Err : goal.returns-in-Err
returns-in-Err c =
    let e = c.in-Err.refusal in
    let texts = c.args.text.now ∷ c.args.old.now ∷ [] in
    if_ok c.refuse.result (λ r. Spells (Refused e) None r × (e ≢ OutOfMemory)) (IsOneOf (IsAnswer c.args.settings.now texts)) (λ r told. record {
      answer = Refused e;
      kept = None;
      allowed = refused c.args.text.now (c.args.old.now ∷ []) e (c.in-Err.ensures.refused told.1);
      spelled = told.0;
    }) c.refuse.ensures
