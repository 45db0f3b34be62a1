use Rattle.std.proofs.Common.{◌≢◌, [], ◌∷◌, Option, None, sym, subst}
use Rattle.dg_base.specs.declared.refusal.Refusal.TheVariants.{OutOfMemory}
use Rattle.dg_top.specs.Answers.{IsAnswer, Kept, Refused, refused, replayed}
use Rattle.dg_top.specs.Replies.{IsOneOf, OfWitness, Spells}
use Rattle.dg_top.proofs.Outcomes.{one_of}
use Rattle.dg_top.proofs.Texts.{if_ok}
use Rattle.dg_top.proofs.replay.replay.Goals as goal

pub returns-in-Ok : goal.returns-in-Ok
returns-in-Ok c =
    let s = c.args.settings.now in
    let text = c.args.text.now in
    let witness = c.args.witness.now in
    let p = c.in-Ok.checked in
    let texts = text ∷ witness ∷ [] in
    if_ok c.replay_witness.result (IsOneOf (OfWitness s.model p witness)) (IsOneOf (IsAnswer s texts)) (λ r. one_of (OfWitness s.model p witness) (IsAnswer s texts) r
    (λ a kept v. subst (λ (k : Option Kept). IsAnswer s texts a k) (sym v.1) (replayed text witness p a c.requires.job c.in-Ok.ensures.accepted v.0))) c.replay_witness.ensures

pub returns-in-Err : goal.returns-in-Err
returns-in-Err c =
    let e = c.in-Err.refusal in
    let texts = c.args.text.now ∷ c.args.witness.now ∷ [] in
    if_ok c.refuse.result (λ r. Spells (Refused e) None r × (e ≢ OutOfMemory)) (IsOneOf (IsAnswer c.args.settings.now texts)) (λ r told. record {
      answer = Refused e;
      kept = None;
      allowed = refused c.args.text.now (c.args.witness.now ∷ []) e (c.in-Err.ensures.refused told.1);
      spelled = told.0;
    }) c.refuse.ensures

pub replay_witness-requires-clause-names : goal.replay_witness-requires-clause-names
replay_witness-requires-clause-names c = c.names_are_plain.ensures c.args.settings.now.bound c.args.settings.now.full c.args.text.now c.in-Ok.checked c.in-Ok.ensures.accepted
