use Rattle.std.proofs.Common.{◌≡◌, ◌≢◌, ℕ, List, [], None, subst, ◌∙◌}
use Rattle.dg_base.specs.declared.refusal.Refusal.TheVariants.{OutOfMemory}
use Rattle.c_program.specs.Accepting.{IsAccepted, IsRefused}
use Rattle.prog_maker.specs.Made.{made_text}
use Rattle.dg_top.specs.Answers.{IsAnswer, MadeVerdict, Refused, effort_of, made_and_refused, made_and_verified}
use Rattle.dg_top.specs.Replies.{IsOneOf, Spells}
use Rattle.dg_top.proofs.Answered.{has_word, nothing_named}
use Rattle.dg_top.proofs.Texts.{if_ok}
use Rattle.dg_top.proofs.make.make_and_verify.Goals as goal

pub returns-in-Ok-read_program : goal.returns-in-Ok-read_program
returns-in-Ok-read_program g c =
    let s = c.args.settings.now in
    let n = c.args.number in
    let p = c.in-Ok-read_program.checked in
    let text : c.as_slice.result.now ≡ made_text n = c.as_slice.ensures ∙ c.in_ok-program.ensures in
    let v = c.in_ok-verdict-in-Ok-read_program.ensures in
    if_ok c.made_verdict.result (Spells (MadeVerdict n v.answer) None) (IsOneOf (IsAnswer s [])) (λ r spelled. record {
      answer = MadeVerdict n v.answer;
      kept = None;
      allowed = made_and_verified n p v.answer c.requires.job (subst (λ (t : List ℕ). IsAccepted s.bound s.full t p) text c.in-Ok-read_program.ensures.accepted)
          (nothing_named s.model p (effort_of s) v.answer v.kept v.allowed);
      spelled = spelled;
    }) (c.made_verdict.ensures v.answer (has_word s.model p (effort_of s) None None v.answer v.kept v.allowed) v.spelled.status)

pub returns : goal.returns
returns g c =
    let s = c.args.settings.now in
    let n = c.args.number in
    let e = c.in-Err.refusal in
    let text : c.as_slice.result.now ≡ made_text n = c.as_slice.ensures ∙ c.in_ok-program.ensures in
    if_ok c.refuse.result (λ r. Spells (Refused e) None r × (e ≢ OutOfMemory)) (IsOneOf (IsAnswer s [])) (λ r told. record {
      answer = Refused e;
      kept = None;
      allowed = made_and_refused n e c.requires.job (subst (λ (t : List ℕ). IsRefused s.bound t e) text (c.in-Err.ensures.refused told.1));
      spelled = told.0;
    }) c.refuse.ensures
