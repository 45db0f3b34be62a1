use Rattle.std.proofs.Common.{true, false, List, ◌∷◌, [], ◌++◌, ap, sym, subst, ◌∙◌}
use Rattle.std.proofs.lemmas.Result.{IfOk-weaker}
use Rattle.lemma_log.specs.declared.Entry.{Entry}
use Rattle.lemma_log.specs.declared.hints.Hint.{Hint}
use Rattle.log_checker.specs.Checking.{HasTaken}
use Rattle.program_log.specs.Pieces.{IsChecked, IsHeadOf, IsStanding}
use Rattle.program_log.proofs.Standings.{checked_more, fails_still, same_more}
use Rattle.program_log.proofs.standing.take_one.Goals as goal

pub returns-in-Plain : goal.returns-in-Plain
returns-in-Plain c =
    let q = c.args.problem.now in
    let e = c.args.entry in
    IfOk-weaker c.check_one.result (λ s. (es : List Entry) → HasTaken q es c.in-Plain.checker → IsChecked q (es ++ e ∷ []) s) _
    (λ s f ours fed given x. checked_more q ours (IsHeadOf fed) given c.in-Plain.checker e c.args.hints s f (subst (IsStanding q ours (IsHeadOf fed) given) c.in-Plain.is x)) c.check_one.ensures

pub returns-in_ok-push-in-Hinted-2 : goal.returns-in_ok-push-in-Hinted-2
returns-in_ok-push-in-Hinted-2 c ours fed given x =
    let q = c.args.problem.now in
    let e = c.args.entry in
    let h = c.args.hints in
    same_more ours (IsHeadOf fed) given true _ _ e h
    (λ es hs t. (ap (λ (l : List Entry). l ++ e ∷ []) t.0 ∙ sym c.in_ok-push-in-Hinted.ensures.ok, ap (λ (l : List (List Hint)). l ++ h ∷ []) t.1 ∙ sym c.in_ok-push-in-Hinted-2.ensures.ok))
    (subst (IsStanding q ours (IsHeadOf fed) given) c.in-Hinted.is x)

pub returns-in-Failed : goal.returns-in-Failed
returns-in-Failed c ours fed given x =
    let q = c.args.problem.now in
    same_more ours (IsHeadOf fed) given false _ _ c.args.entry c.args.hints (λ es hs f. fails_still q es c.args.entry c.in-Failed.why f) (subst (IsStanding q ours (IsHeadOf fed) given) c.in-Failed.is x)
