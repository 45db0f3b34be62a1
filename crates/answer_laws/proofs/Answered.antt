-- Some answer is always allowed, where no log is read or kept.
use Rattle.std.proofs.Common.{◌≡◌, List, [], ◌∷◌, true, false, Option, Some, None, Result, Ok, Err, IfOk, ℕ, map, length, refl, subst, ◌∙◌, arith}
use Rattle.std.proofs.lemmas.List.{length-map}
use Rattle.dg_base.specs.declared.outside.FileEntry.{FileEntry}
use Rattle.dg_base.specs.Outside.{contents}
use Rattle.c_program.specs.Accepting.{NotNeither}
use Rattle.prog_maker.specs.Made.{made_text}
use Rattle.word_settings.specs.declared.fault.WordsFault.{WordsFault}
use Rattle.word_settings.specs.declared.settings.Job.{Job}
use Rattle.word_settings.specs.declared.settings.Job.TheVariants as job
use Rattle.word_settings.specs.declared.settings.Settings.{Settings}
use Rattle.word_settings.specs.Settings.{file_count, settings_of}
use Rattle.c_check.specs.WellFormed.{IsBound}
use Rattle.c_check.specs.declared.checked.Checked.{Checked}
use Rattle.axiom_model.specs.declared.MemoryModel.{MemoryModel}
use Rattle.program_verdict.specs.declared.Effort.{Effort}
use Rattle.dg_top.specs.Answers.{Answer, BadWords, IsAnswer, IsAnswerOf, IsVerdict, Kept, KeepsIn, LongFile, Made, MadeVerdict, Refused, answer, bad_words, effort_of, first_long, job_done, long_file, made, made_and_refused, made_and_verified, nothing, refused, replayed, safe, unknown, unsafe, verified}
use Rattle.answer_laws.specs.Laws.{NeedsNoLog, SomeAnswerIsAllowed, SomeReplayIsAllowed, SomeVerdictIsAllowed}
use Rattle.answer_laws.proofs.Options.{none_else}
use Rattle.answer_laws.proofs.Settings.{is_settled}

-- where no file is named, nothing is kept
nothing_in : (P : List ℕ → Type 0) (kept : Option Kept) → KeepsIn P None kept → kept ≡ None
nothing_in P _ nothing = refl

nothing_kept : (m : MemoryModel) (effort : Effort) (p : Checked) (a : Answer) (kept : Option Kept) → IsVerdict m effort p None None a kept → kept ≡ None
nothing_kept m effort p _ kept (safe _ none keeps) = nothing_in _ kept keeps
nothing_kept m effort p _ kept (unsafe c text handle at bound _ spells fails first keeps) = nothing_in _ kept keeps
nothing_kept m effort p _ kept (unknown reports _ undecided keeps) = nothing_in _ kept keeps

module _ (not_neither : NotNeither) (some_replay : SomeReplayIsAllowed) (some_verdict : SomeVerdictIsAllowed) where
  module _ (s : Settings) (bound : IsBound s.bound) where
    -- of the texts of a job something is answered
    of_texts : (j : Job) (texts : List (List ℕ)) → s.job ≡ j → NeedsNoLog j → length texts ≡ file_count j → ((a : Answer) (kept : Option Kept) → IsAnswer s texts a kept → ⊥) → ⊥
    of_texts (job.Verify None witness) (text ∷ []) is no_log long none =
        not_neither s.bound s.full text bound
        (λ p acc. some_verdict s.bound s.full text s.model (effort_of s) p witness acc (λ a kept v. none a kept (verified text p None witness a kept is acc v)))
        (λ e r. none (Refused e) None (refused text [] e r))
    of_texts (job.Verify (Some log) witness) texts is no_log long none = absurd cc
    of_texts (job.Verify None witness) [] is no_log long none = absurd (omega arith)
    of_texts (job.Verify None witness) (a ∷ b ∷ more) is no_log long none = absurd (omega arith)
    of_texts job.Replay (text ∷ witness ∷ []) is no_log long none =
        not_neither s.bound s.full text bound
        (λ p acc. some_replay s.model p witness acc.checked (λ a v. none a None (replayed text witness p a is acc v)))
        (λ e r. none (Refused e) None (refused text (witness ∷ []) e r))
    of_texts job.Replay [] is no_log long none = absurd (omega arith)
    of_texts job.Replay (a ∷ []) is no_log long none = absurd (omega arith)
    of_texts job.Replay (a ∷ b ∷ c ∷ more) is no_log long none = absurd (omega arith)
    of_texts job.Check texts is no_log long none = absurd no_log
    of_texts (job.Migrate new) texts is no_log long none = absurd no_log
    of_texts (job.Make n false) [] is no_log long none = none (Made n) None (made n is)
    of_texts (job.Make n true) [] is no_log long none =
        not_neither s.bound s.full (made_text n) bound
        (λ p acc. some_verdict s.bound s.full (made_text n) s.model (effort_of s) p None acc
        (λ a kept v. let empty = nothing_kept s.model (effort_of s) p a kept v in
        none (MadeVerdict n a) None (made_and_verified n p a is acc (subst (IsVerdict s.model (effort_of s) p None None a) empty v))))
        (λ e r. none (Refused e) None (made_and_refused n e is r))
    of_texts (job.Make n run) (a ∷ more) is no_log long none = absurd (omega arith)

    of_files : (files : List FileEntry) → NeedsNoLog s.job → length s.files ≡ file_count s.job → ((a : Answer) (kept : Option Kept) → IsAnswerOf s files a kept → ⊥) → ⊥
    of_files files no_log long none =
        let short = none_else (first_long files s.files) (λ name e. none (LongFile name) None (long_file name e)) in
        of_texts s.job (map (contents files) s.files) refl no_log (length-map s.files (contents files) ∙ long) (λ a kept v. none a kept (answer a kept short v))

  pub some_answer_is_allowed : SomeAnswerIsAllowed
  some_answer_is_allowed words files no_log none = by_settings (settings_of words) refl
    where
      by_settings : (r : Result Settings WordsFault) → settings_of words ≡ r → ⊥
      by_settings (Err e) is = none (BadWords e) None (bad_words e is)
      by_settings (Ok s) is =
          let it = is_settled words s is in
          let job = subst (λ (r : Result Settings WordsFault). IfOk r (λ s. NeedsNoLog s.job)) is no_log in
          of_files s it.bound files job it.files (λ a kept v. none a kept (job_done s a kept is v))
