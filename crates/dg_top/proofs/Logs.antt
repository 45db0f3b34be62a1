-- A log that is accepted, or kept anew, is that of a program with no execution that fails.
use Rattle.std.proofs.Common.{◌≡◌, ◌≢◌, ℕ, List, [], ◌∷◌, Option, refl, subst}
use Rattle.axiom_model.specs.declared.MemoryModel.{MemoryModel}
use Rattle.c_check.specs.declared.checked.Checked.{Checked}
use Rattle.run_model.specs.Threads.{ProgramFails}
use Rattle.program_log.specs.declared.answers.LogAnswer.{LogAnswer}
use Rattle.program_log.specs.declared.answers.LogAnswer.TheVariants as log
use Rattle.program_log.specs.declared.answers.Migration.{Migration}
use Rattle.program_log.specs.declared.answers.Migration.TheVariants as migration
use Rattle.program_log.specs.Laws as logs
use Rattle.program_log.specs.Logs as program_logs
use Rattle.program_log.specs.Logs.{IsCheck, IsMigration, IsMigrationFor}
use Rattle.program_verdict.specs.declared.Effort.{Effort}
use Rattle.c_program.specs.Accepting.{IsAccepted, OneChecked}
use Rattle.word_settings.specs.declared.settings.Settings.{Settings}
use Rattle.word_settings.specs.Settings.{Word}
use Rattle.dg_top.specs.Answers.{Answer, IsAnswer, IsMigrated, IsReplay, IsVerdict, Kept, Migrated, OfLog, effort_of}
use Rattle.dg_top.specs.Answers as answers
use Rattle.dg_top.specs.Laws.{AcceptedIsSafe, HasNoFailure, MigratedIsSafe}

-- the log is accepted, or kept anew
abbrev IsGoodLog : Answer → Type 0
IsGoodLog (OfLog (log.Accepted n)) = Unit {0}
IsGoodLog (Migrated n) = Unit {0}
IsGoodLog _ = ⊥

-- ---- answers that tell of no log

no_verdict : (m : MemoryModel) (effort : Effort) (p : Checked) (l w : Option Word) (a : Answer) (kept : Option Kept) → IsVerdict m effort p l w a kept → IsGoodLog a → ⊥
no_verdict m effort p l w _ _ (answers.safe k n x) good = good
no_verdict m effort p l w _ _ (answers.unsafe c t h at b k s x f y) good = good
no_verdict m effort p l w _ _ (answers.unknown reports k u x) good = good

no_replay : (m : MemoryModel) (p : Checked) (w : List ℕ) (a : Answer) → IsReplay m p w a → IsGoodLog a → ⊥
no_replay m p w _ (answers.bad_witness line r) good = good
no_replay m p w _ (answers.failing c h at b s x f) good = good
no_replay m p w _ (answers.rejected c r s b n) good = good

-- ---- logs

module _ (accepted_safe : logs.AcceptedIsSafe) (migrated_safe : logs.MigratedIsSafe) where
  of_check : (m : MemoryModel) (p : Checked) (text : List ℕ) (a : LogAnswer) → IsCheck m p text a → IsGoodLog (OfLog a) → logs.IsSafe p m
  of_check m p text (log.Accepted n) check good = accepted_safe m p text n check
  of_check m p text (log.OtherProblem line theirs ours) check good = absurd good
  of_check m p text (log.Refused why) check good = absurd good
  of_check m p text (log.BadLog line) check good = absurd good

  -- what is answered in place of a migration is not that the log is accepted
  abbrev NotAccepted : Migration → Type 0
  NotAccepted (migration.Migrated n text) = Unit {0}
  NotAccepted (migration.Refused a) = (n : ℕ) → a ≢ log.Accepted n

  not_accepted : (p : Checked) (x : _) (old : List ℕ) (a : Migration) → IsMigrationFor p x old a → NotAccepted a
  not_accepted p x old _ (program_logs.migrated n new anew) = tt
  not_accepted p x old _ (program_logs.refused a is not) = not

  refused_otherwise : (a : LogAnswer) → ((n : ℕ) → a ≢ log.Accepted n) → IsGoodLog (OfLog a) → ⊥
  refused_otherwise (log.Accepted n) not good = not n refl
  refused_otherwise (log.OtherProblem line theirs ours) not good = good
  refused_otherwise (log.Refused why) not good = good
  refused_otherwise (log.BadLog line) not good = good

  of_migration : (m : MemoryModel) (p : Checked) (old : List ℕ) (name : Word) (a : Answer) (kept : Option Kept) → IsMigrated m p old name a kept → IsGoodLog a → logs.IsSafe p m
  of_migration m p old name _ _ (answers.migrated n new is) good = migrated_safe m p old new n is
  of_migration m p old name _ _ (answers.refused a is) good = absurd (refused_otherwise a (not_accepted p is.encoded old (migration.Refused a) is.answer) good)

  -- ---- texts

  -- a program that does not fail, and its text, which is the first one
  record IsClean (s : Settings) (texts : List (List ℕ)) : Type 0 where
    text : List ℕ
    others : List (List ℕ)
    program : Checked
    texts_are : texts ≡ text ∷ others
    accepted : IsAccepted s.bound s.full text program
    safe : logs.IsSafe program s.model

  clean : (s : Settings) (texts : List (List ℕ)) (a : Answer) (kept : Option Kept) → IsAnswer s texts a kept → IsGoodLog a → IsClean s texts
  clean s _ _ _ (answers.refused text others e r) good = absurd good
  clean s _ a kept (answers.verified text p l w b k j acc v) good = absurd (no_verdict s.model (effort_of s) p l w b k v good)
  clean s _ a _ (answers.replayed text w p b j acc v) good = absurd (no_replay s.model p w b v good)
  clean s _ _ _ (answers.checked text l p a j acc c) good = record { text = text; others = l ∷ []; program = p; texts_are = refl; accepted = acc; safe = of_check s.model p l a c good }
  clean s _ a kept (answers.migrated text old p name b k j acc m) good =
      record { text = text; others = old ∷ []; program = p; texts_are = refl; accepted = acc; safe = of_migration s.model p old name b k m good }
  clean s _ _ _ (answers.made n j) good = absurd good
  clean s _ _ _ (answers.made_and_verified n p a j acc v) good = absurd good
  clean s _ _ _ (answers.made_and_refused n e j r) good = absurd good

  -- ---- the laws

  module _ (one_checked : OneChecked) where
    has_none : (s : Settings) (text : List ℕ) (others : List (List ℕ)) → IsClean s (text ∷ others) → HasNoFailure s text
    has_none s text others x p c accepted fails =
        let texts : text ∷ others ≡ x.text ∷ x.others = x.texts_are in
        let same : x.text ≡ text = cc in
        let program : p ≡ x.program = one_checked s.bound s.full text p x.program accepted (subst (λ (t : List ℕ). IsAccepted s.bound s.full t x.program) same x.accepted) in
        x.safe c (subst (λ (q : Checked). ProgramFails q s.model c) program fails)

    pub accepted_is_safe : AcceptedIsSafe
    accepted_is_safe s text l n kept a = has_none s text (l ∷ []) (clean s (text ∷ l ∷ []) (OfLog (log.Accepted n)) kept a tt)

    pub migrated_is_safe : MigratedIsSafe
    migrated_is_safe s text old n kept a = has_none s text (old ∷ []) (clean s (text ∷ old ∷ []) (Migrated n) kept a tt)
