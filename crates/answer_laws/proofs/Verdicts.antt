-- Some verdict on an accepted text is allowed, since it fails only where a failing execution has a text.
use Rattle.std.proofs.Common.{Option, None, Some}
use Rattle.axiom_model.specs.declared.MemoryModel.{MemoryModel}
use Rattle.c_check.specs.declared.checked.Checked.{Checked}
use Rattle.program_verdict.specs.declared.Effort.{Effort}
use Rattle.word_settings.specs.Settings.{Word}
use Rattle.dg_top.specs.Answers.{Answer, IsVerdict, Kept, Safe, Unsafe, nothing, safe, unsafe}
use Rattle.dg_top.specs.Replies.{kept_in}
use Rattle.dg_top.proofs.Verdicts.{keeps_this}
use Rattle.answer_laws.specs.Laws.{SomeVerdictIsAllowed}
use Rattle.answer_laws.specs.Spelled.{FailingIsSpelled, IsSpelledFailure}
use Rattle.answer_laws.proofs.Unbroken.{failing_is_told}

module _ (m : MemoryModel) (effort : Effort) (p : Checked) (witness : Option Word) (none : (a : Answer) (kept : Option Kept) → IsVerdict m effort p None witness a kept → ⊥) where
  not_spelled : IsSpelledFailure p m → ⊥
  not_spelled s =
      let told = failing_is_told p m s.candidate s.fails in
      let f = told.0 in
      let kept = kept_in witness (Some s.text) in
      none (Unsafe s.text f.handle f.place f.bound) kept (unsafe s.candidate s.text f.handle f.place f.bound kept s.spells s.fails told.1 (keeps_this witness s.text))

pub some_verdict_is_allowed : FailingIsSpelled → SomeVerdictIsAllowed
some_verdict_is_allowed spelled bound full text m effort p witness acc none =
    none Safe None (safe None (λ c x. not_spelled m effort p witness none (spelled bound full text p m c acc x)) nothing)
