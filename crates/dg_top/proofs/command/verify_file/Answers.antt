use Rattle.std.proofs.Common.{List, ℕ, [], ◌∷◌, subst}
use Rattle.dg_base.specs.Outside.{Told}
use Rattle.dg_top.specs.Answers.{IsAnswer}
use Rattle.dg_top.specs.Replies.{IsFetched, IsOneOf}
use Rattle.dg_top.proofs.Files.{first_too_long, one_file, one_name}
use Rattle.dg_top.proofs.Answered.{one_keeps, one_status}
use Rattle.dg_top.proofs.command.verify_file.Goals as goal

pub returns-in_default-clause-replies : goal.returns-in_default-clause-replies
returns-in_default-clause-replies g c =
    let s = c.args.settings.now in
    let name = c.word-name.result.now in
    first_too_long s name [] (g.D.Desk.files c.args.desk.now) c.in_ok-long_file.field-0 (one_name s.files name c.requires.files c.word-name.ensures)
    (subst (λ o. Told (λ fs. IsFetched fs name o) (g.D.Desk.files c.args.desk.now)) c.in_default.is c.in_ok-text.ensures.fetched) c.in_ok-long_file.ensures

pub returns-clause-replies : goal.returns-clause-replies
returns-clause-replies g c =
    let s = c.args.settings.now in
    let name = c.word-name.result.now in
    one_file s name c.in-Some.text (g.D.Desk.files c.args.desk.now) c.in_ok-verify.field-0 (one_name s.files name c.requires.files c.word-name.ensures)
    (subst (λ o. Told (λ fs. IsFetched fs name o) (g.D.Desk.files c.args.desk.now)) c.in-Some.is c.in_ok-text.ensures.fetched)
    (subst (λ (t : List ℕ). IsOneOf (IsAnswer s (t ∷ [])) c.in_ok-verify.field-0) c.as_slice.ensures c.in_ok-verify.ensures)

pub returns-clause-status : goal.returns-clause-status
returns-clause-status g c = one_status c.args.settings.now (c.as_slice.result.now ∷ []) c.in_ok-verify.field-0 c.in_ok-verify.ensures

pub returns-clause-keeps : goal.returns-clause-keeps
returns-clause-keeps g c = one_keeps c.args.settings.now (c.as_slice.result.now ∷ []) c.in_ok-verify.field-0 c.in_ok-verify.ensures
