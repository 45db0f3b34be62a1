-- A program that is answered with Safe is covered, where spent bounds are told.
use Rattle.std.proofs.Common.{◌≡◌, ℕ, List, [], ◌∷◌, Option, Result, Ok, map, refl, sym, subst, ◌∙◌}
use Rattle.dg_base.specs.declared.outside.FileEntry.{FileEntry}
use Rattle.dg_base.specs.Outside.{contents}
use Rattle.axiom_model.specs.declared.Candidate.{Candidate}
use Rattle.axiom_model.specs.declared.MemoryModel.{MemoryModel}
use Rattle.c_check.specs.declared.checked.Checked.{Checked}
use Rattle.run_model.specs.Threads.{ProgramFails}
use Rattle.c_program.specs.Accepting.{IsAccepted, OneChecked}
use Rattle.word_settings.specs.declared.settings.Settings.{Settings}
use Rattle.word_settings.specs.Settings.{Word, settings_of}
use Rattle.full_bound.specs.FullBound.{FullBoundSuffices, IsUpTo}
use Rattle.dg_top.specs.Answers.{Allowed, Answer, IsAnswer, IsAnswerOf, IsMigrated, IsReplay, IsVerdict, Kept, Safe, answer, bad_witness, bad_words, checked, effort_of, failing, job_done, long_file, made, made_and_refused, made_and_verified, migrated, refused, rejected, replayed, safe, unknown, unsafe, verified}
use Rattle.dg_top.specs.Laws.{HasNoFailure}
use Rattle.bound_laws.specs.Laws.{AcceptedHasWordsOnly, NoFailureIsCovered, ReadsOne, SafeIsCovered, SafeIsOfProgram, at_bound}

pub no_failure_covers : AcceptedHasWordsOnly → FullBoundSuffices → NoFailureIsCovered
no_failure_covers words suffices s text p full none acc j told c larger fails =
    let up : IsUpTo p (at_bound p j told) =
    record { checked = acc.checked; words = words s.bound s.full text p acc; told = acc.for_full ∙ full; program = refl; bound = larger } in
    let smaller = suffices p (at_bound p j told) s.model c up fails in
    none p smaller.0 acc smaller.1

-- ---- the text that is answered with Safe

record IsSafe (s : Settings) (texts : List (List ℕ)) : Type 0 where
  text : List ℕ
  program : Checked
  texts_are : texts ≡ text ∷ []
  accepted : IsAccepted s.bound s.full text program
  none : (c : Candidate) → ProgramFails program s.model c → ⊥

-- what an answer tells of the texts, if it is Safe
abbrev Told : Settings → List (List ℕ) → Answer → Type 0
Told s texts Safe = IsSafe s texts
Told s texts _ = Unit {0}

by_verdict : (s : Settings) (text : List ℕ) (p : Checked) (log witness : Option Word) (a : Answer) (kept : Option Kept) → IsAccepted s.bound s.full text p
    → IsVerdict s.model (effort_of s) p log witness a kept → Told s (text ∷ []) a
by_verdict s text p log witness _ _ acc (safe kept n k) = record { text = text; program = p; texts_are = refl; accepted = acc; none = n }
by_verdict s text p log witness _ _ acc (unsafe c w h at b kept d x f k) = tt
by_verdict s text p log witness _ _ acc (unknown reports kept u k) = tt

by_replay : (s : Settings) (texts : List (List ℕ)) (m : MemoryModel) (p : Checked) (w : List ℕ) (a : Answer) → IsReplay m p w a → Told s texts a
by_replay s texts m p w _ (bad_witness line r) = tt
by_replay s texts m p w _ (failing c h at b d x f) = tt
by_replay s texts m p w _ (rejected c e d b n) = tt

by_migration : (s : Settings) (texts : List (List ℕ)) (m : MemoryModel) (p : Checked) (old : List ℕ) (name : Word) (a : Answer) (kept : Option Kept) → IsMigrated m p old name a kept
    → Told s texts a
by_migration s texts m p old name _ _ (migrated n new i) = tt
by_migration s texts m p old name _ _ (refused a i) = tt

by_answer : (s : Settings) (texts : List (List ℕ)) (a : Answer) (kept : Option Kept) → IsAnswer s texts a kept → Told s texts a
by_answer s _ _ _ (refused text others r d) = tt
by_answer s _ a kept (verified text p log witness b k j acc v) = by_verdict s text p log witness b k acc v
by_answer s _ a _ (replayed text w p b j acc v) = by_replay s (text ∷ w ∷ []) s.model p w b v
by_answer s _ _ _ (checked text l p a j acc v) = tt
by_answer s _ a kept (migrated text old p name b k j acc v) = by_migration s (text ∷ old ∷ []) s.model p old name b k v
by_answer s _ _ _ (made n j) = tt
by_answer s _ _ _ (made_and_verified n p a j acc v) = tt
by_answer s _ _ _ (made_and_refused n r j d) = tt

abbrev ToldOf : List FileEntry → Settings → Answer → Type 0
ToldOf files s a = Told s (map (contents files) s.files) a

by_job : (s : Settings) (files : List FileEntry) (a : Answer) (kept : Option Kept) → IsAnswerOf s files a kept → ToldOf files s a
by_job s files _ _ (long_file name e) = tt
by_job s files a kept (answer b k e v) = by_answer s (map (contents files) s.files) b k v

one_result : {T E : Type 0} (r : Result T E) (x y : T) → r ≡ Ok x → r ≡ Ok y → x ≡ y
one_result r x y e f = let same : Ok x ≡ Ok y = sym e ∙ f in cc

by_words : (words : List Word) (files : List FileEntry) (s : Settings) (a : Answer) (kept : Option Kept) → settings_of words ≡ Ok s → Allowed words files a kept → ToldOf files s a
by_words words files s _ _ are (bad_words e f) = tt
by_words words files s a kept are (job_done t b k e v) = subst (λ (t : Settings). ToldOf files t b) (one_result (settings_of words) t s e are) (by_job t files b k v)

-- ---- the laws

pub safe_is_of_program : SafeIsOfProgram
safe_is_of_program words files kept s are allowed =
    let it = by_words words files s Safe kept are allowed in
    (it.text, it.program, it.texts_are, it.accepted)

module _ (one_checked : OneChecked) where
  no_failure : (s : Settings) (files : List FileEntry) (text : List ℕ) → ReadsOne s files text → IsSafe s (map (contents files) s.files) → HasNoFailure s text
  no_failure s files text only it p c acc fails =
      let lists : text ∷ [] ≡ it.text ∷ [] = sym only ∙ it.texts_are in
      let same : it.text ≡ text = cc in
      let program : p ≡ it.program = one_checked s.bound s.full text p it.program acc (subst (λ (t : List ℕ). IsAccepted s.bound s.full t it.program) same it.accepted) in
      it.none c (subst (λ (q : Checked). ProgramFails q s.model c) program fails)

  pub safe_covers : NoFailureIsCovered → SafeIsCovered
  safe_covers covers words files kept s text p are full allowed only acc =
      covers s text p full (no_failure s files text only (by_words words files s Safe kept are allowed)) acc
