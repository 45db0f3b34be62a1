use Rattle.std.proofs.Common.{◌≡◌, List, Option, Some, None, [], ◌∷◌, ap, subst, sym, ◌∙◌}
use Rattle.dg_base.specs.declared.outside.FileEntry.{FileEntry}
use Rattle.dg_base.specs.Outside.{Told}
use Rattle.dg_base.specs.declared.outside.Trouble.TheVariants.{Failed}
use Rattle.dg_top.specs.Replies.{IsFetched}
use Rattle.dg_top.proofs.Files.{first_too_long, no_ok, same_err, second_fails, second_too_long, two_files, two_names}
use Rattle.dg_top.proofs.Answered.{one_keeps, one_status}
use Rattle.dg_top.proofs.command.two_files.Goals as goal

pub returns-in_default-clause-replies : goal.returns-in_default-clause-replies
returns-in_default-clause-replies g c =
    let s = c.args.settings.now in
    let files = g.D.Desk.files c.args.desk.now in
    let name = c.word-program.result.now in
    let other = c.word-other.result.now in
    first_too_long s name (other ∷ []) files c.in_ok-long_file.field-0 (two_names s.files name other c.requires.files c.word-program.ensures c.word-other.ensures)
    (subst (λ o. Told (λ fs. IsFetched fs name o) files) c.in_default.is c.in_ok-text.ensures.fetched) c.in_ok-long_file.ensures

pub returns-in-Ok-Some-clause-replies : goal.returns-in-Ok-Some-clause-replies
returns-in-Ok-Some-clause-replies g c =
    let s = c.args.settings.now in
    let files = g.D.Desk.files c.args.desk.now in
    let name = c.word-program.result.now in
    let other = c.word-other.result.now in
    let text : c.in_ok-text.field-0 ≡ Some c.as_slice.result.now = c.in-Some.is ∙ ap Some (sym c.as_slice.ensures) in
    let told : c.in-Ok-Some.field-0 ≡ Some c.as_slice-in-Ok-Some.result.now = c.in-Ok-Some.field-0-is ∙ ap Some (sym c.as_slice-in-Ok-Some.ensures) in
    two_files s name c.as_slice.result.now other c.as_slice-in-Ok-Some.result.now files c.in_ok-answer_of_two-in-Ok-Some.field-0
    (two_names s.files name other c.requires.files c.word-program.ensures c.word-other.ensures)
    (subst (λ o. Told (λ fs. IsFetched fs name o) files) text c.in_ok-text.ensures.fetched)
    (subst (λ (fs : Option (List FileEntry)). Told (λ x. IsFetched x other (Some c.as_slice-in-Ok-Some.result.now)) fs) c.in_ok-text.ensures.files
    (subst (λ o. Told (λ fs. IsFetched fs other o) (g.D.Desk.files c.fetched.new.desk)) told c.in-Ok-Some.ensures.fetched))
    c.in_ok-answer_of_two-in-Ok-Some.ensures

pub returns-in-Ok-None-clause-replies : goal.returns-in-Ok-None-clause-replies
returns-in-Ok-None-clause-replies g c =
    let s = c.args.settings.now in
    let files = g.D.Desk.files c.args.desk.now in
    let name = c.word-program.result.now in
    let other = c.word-other.result.now in
    second_too_long s name c.in-Some.text other files c.in_ok-long_file-in-Ok-None.field-0
    (two_names s.files name other c.requires.files c.word-program.ensures c.word-other.ensures)
    (subst (λ o. Told (λ fs. IsFetched fs name o) files) c.in-Some.is c.in_ok-text.ensures.fetched)
    (subst (λ (fs : Option (List FileEntry)). Told (λ x. IsFetched x other None) fs) c.in_ok-text.ensures.files
    (subst (λ o. Told (λ fs. IsFetched fs other o) (g.D.Desk.files c.fetched.new.desk)) c.in-Ok-None.field-0-is c.in-Ok-None.ensures.fetched))
    c.in_ok-long_file-in-Ok-None.ensures

pub returns-clause-fault : goal.returns-clause-fault
returns-clause-fault g c =
    λ e. second_fails c.args.settings.now.files 1 c.word-other.result.now (g.D.Desk.faults c.args.desk.now) (g.D.Desk.faults c.fetched.new.desk) (g.D.Desk.faults c.fetched-2.new.desk) c.word-other.ensures
    (c.in_ok-text.ensures.no_fault (no_ok c.in_ok-text.field-0 Failed)) (c.in-Err.ensures.fault (same_err c.in-Err.trouble Failed e))

pub returns-in-Ok-Some-clause-status : goal.returns-in-Ok-Some-clause-status
returns-in-Ok-Some-clause-status g c =
    one_status c.args.settings.now (c.as_slice.result.now ∷ c.as_slice-in-Ok-Some.result.now ∷ []) c.in_ok-answer_of_two-in-Ok-Some.field-0 c.in_ok-answer_of_two-in-Ok-Some.ensures

pub returns-in-Ok-Some-clause-keeps : goal.returns-in-Ok-Some-clause-keeps
returns-in-Ok-Some-clause-keeps g c =
    one_keeps c.args.settings.now (c.as_slice.result.now ∷ c.as_slice-in-Ok-Some.result.now ∷ []) c.in_ok-answer_of_two-in-Ok-Some.field-0 c.in_ok-answer_of_two-in-Ok-Some.ensures
