-- Safe and Unsafe exclude each other, and the witness of an unsafe program is a failing execution of it.
use Rattle.std.proofs.Common.{◌≡◌, ◌≢◌, ℕ, Bool, List, [], ◌∷◌, Option, Result, Ok, map, refl, sym, subst, ◌∙◌}
use Rattle.dg_base.specs.declared.Place.{Place}
use Rattle.dg_base.specs.declared.outside.FileEntry.{FileEntry}
use Rattle.dg_base.specs.Outside.{contents}
use Rattle.axiom_model.specs.declared.Candidate.{Candidate}
use Rattle.axiom_model.specs.declared.MemoryModel.{MemoryModel}
use Rattle.axiom_model.specs.Failing.{FailsFirst}
use Rattle.c_check.specs.declared.checked.Checked.{Checked}
use Rattle.c_check.specs.PlainNames.{cell_names}
use Rattle.run_model.specs.Threads.{ProgramFails}
use Rattle.witness_text.specs.Spelling.{Spells}
use Rattle.c_program.specs.Accepting.{IsAccepted, OneChecked}
use Rattle.program_verdict.specs.declared.Effort.{Effort}
use Rattle.program_log.specs.declared.answers.LogAnswer.{LogAnswer}
use Rattle.word_settings.specs.declared.settings.Settings.{Settings}
use Rattle.word_settings.specs.declared.fault.WordsFault.{WordsFault}
use Rattle.word_settings.specs.Settings.{Word, settings_of}
use Rattle.dg_top.specs.Answers.{Allowed, Answer, BadWitness, BadWords, Failing, IsAnswer, IsAnswerOf, IsMigrated, IsReplay, IsVerdict, Kept, LongFile, Made, MadeVerdict, Migrated, OfLog, Refused, Rejected, Safe, Unknown, Unsafe, answer, bad_witness, bad_words, checked, effort_of, failing, job_done, long_file, made, made_and_refused, made_and_verified, migrated, refused, rejected, replayed, safe, unknown, unsafe, verified}
use Rattle.dg_top.specs.Laws.{SafeExcludesUnsafe, UnsafeIsReplayed}

-- ---- an answer that the words' job gives of its texts

record Asked (words : List Word) (files : List FileEntry) (a : Answer) : Type 0 where
  settings : Settings
  kept : Option Kept
  are : settings_of words ≡ Ok settings
  answered : IsAnswer settings (map (contents files) settings.files) a kept

of_job : (words : List Word) (files : List FileEntry) (s : Settings) (a : Answer) (kept : Option Kept) → ((name : Word) → a ≢ LongFile name) → settings_of words ≡ Ok s
    → IsAnswerOf s files a kept → Asked words files a
of_job words files s _ _ short e (long_file name f) = absurd (short name refl)
of_job words files s a kept short e (answer b k none v) = record { settings = s; kept = k; are = e; answered = v }

asked : (words : List Word) (files : List FileEntry) (a : Answer) (kept : Option Kept) → ((e : WordsFault) → a ≢ BadWords e) → ((name : Word) → a ≢ LongFile name)
    → Allowed words files a kept → Asked words files a
asked words files _ _ known short (bad_words e f) = absurd (known e refl)
asked words files a kept known short (job_done s b k e v) = of_job words files s b k short e v

-- ---- a text that is answered with Safe

record IsSafe (s : Settings) (texts : List (List ℕ)) : Type 0 where
  text : List ℕ
  program : Checked
  texts_are : texts ≡ text ∷ []
  accepted : IsAccepted s.bound s.full text program
  none : (c : Candidate) → ProgramFails program s.model c → ⊥

none_fails : (m : MemoryModel) (effort : Effort) (p : Checked) (log witness : Option Word) (a : Answer) (kept : Option Kept) → a ≡ Safe → IsVerdict m effort p log witness a kept
    → (c : Candidate) → ProgramFails p m c → ⊥
none_fails m effort p log witness _ _ e (safe kept n k) = n
none_fails m effort p log witness _ _ e (unsafe c w h at b kept s x f k) = absurd (let no : Unsafe w h at b ≡ Safe = e in cc)
none_fails m effort p log witness _ _ e (unknown reports kept u k) = absurd (let no : Unknown reports ≡ Safe = e in cc)

no_safe_replay : (m : MemoryModel) (p : Checked) (w : List ℕ) (a : Answer) → a ≡ Safe → IsReplay m p w a → ⊥
no_safe_replay m p w _ e (bad_witness line r) = let no : BadWitness line ≡ Safe = e in cc
no_safe_replay m p w _ e (failing c h at b s x f) = let no : Failing h at b ≡ Safe = e in cc
no_safe_replay m p w _ e (rejected c r s b n) = let no : Rejected p r ≡ Safe = e in cc

no_safe_log : (a : LogAnswer) → OfLog a ≢ Safe
no_safe_log a e = cc

no_safe_migration : (m : MemoryModel) (p : Checked) (old : List ℕ) (name : Word) (a : Answer) (kept : Option Kept) → a ≡ Safe → IsMigrated m p old name a kept → ⊥
no_safe_migration m p old name _ _ e (migrated n new i) = let no : Migrated n ≡ Safe = e in cc
no_safe_migration m p old name _ _ e (refused a i) = no_safe_log a e

is_safe : (s : Settings) (texts : List (List ℕ)) (a : Answer) (kept : Option Kept) → a ≡ Safe → IsAnswer s texts a kept → IsSafe s texts
is_safe s _ _ _ e (refused text others r d) = absurd (let no : Refused r ≡ Safe = e in cc)
is_safe s _ a kept e (verified text p l w b k j acc v) =
    record { text = text; program = p; texts_are = refl; accepted = acc; none = none_fails s.model (effort_of s) p l w b k e v }
is_safe s _ a _ e (replayed text witness p b j acc v) = absurd (no_safe_replay s.model p witness b e v)
is_safe s _ _ _ e (checked text l p a j acc v) = absurd (no_safe_log a e)
is_safe s _ a kept e (migrated text old p name b k j acc v) = absurd (no_safe_migration s.model p old name b k e v)
is_safe s _ _ _ e (made n j) = absurd (let no : Made n ≡ Safe = e in cc)
is_safe s _ _ _ e (made_and_verified n p a j acc v) = absurd (let no : MadeVerdict n a ≡ Safe = e in cc)
is_safe s _ _ _ e (made_and_refused n r j d) = absurd (let no : Refused r ≡ Safe = e in cc)

-- ---- a text that is answered with Unsafe

record Shows (m : MemoryModel) (p : Checked) (w : List ℕ) (h : ℕ) (at : Place) (way : Bool) : Type 0 where
  candidate : Candidate
  spells : Spells p.functions (cell_names p.cells) candidate w
  fails : ProgramFails p m candidate
  first : FailsFirst candidate fails.allowed.threads h at way

record IsUnsafe (s : Settings) (texts : List (List ℕ)) (w : List ℕ) (h : ℕ) (at : Place) (way : Bool) : Type 0 where
  text : List ℕ
  program : Checked
  texts_are : texts ≡ text ∷ []
  accepted : IsAccepted s.bound s.full text program
  shows : Shows s.model program w h at way

module _ (w : List ℕ) (h : ℕ) (at : Place) (way : Bool) where
  shows_it : (m : MemoryModel) (effort : Effort) (p : Checked) (l x : Option Word) (a : Answer) (kept : Option Kept) → a ≡ Unsafe w h at way → IsVerdict m effort p l x a kept
      → Shows m p w h at way
  shows_it m effort p l _ _ _ e (safe kept n k) = absurd (let no : Safe ≡ Unsafe w h at way = e in cc)
  shows_it m effort p l _ _ _ e (unknown reports kept u k) = absurd (let no : Unknown reports ≡ Unsafe w h at way = e in cc)
  shows_it m effort p l _ _ _ e (unsafe c v k bt b kept s x f i) =
      let told : v ≡ w = cc in
      let handle : k ≡ h = cc in
      let place : bt ≡ at = cc in
      let flag : b ≡ way = cc in
      record {
        candidate = c;
        spells = subst (λ t. Spells p.functions (cell_names p.cells) c t) told s;
        fails = x;
        first = subst (λ (z : Bool). FailsFirst c x.allowed.threads h at z) flag (subst (λ (q : Place). FailsFirst c x.allowed.threads h q b) place (subst (λ (i : ℕ). FailsFirst c x.allowed.threads i bt b) handle f));
      }

  no_unsafe_replay : (m : MemoryModel) (p : Checked) (v : List ℕ) (a : Answer) → a ≡ Unsafe w h at way → IsReplay m p v a → ⊥
  no_unsafe_replay m p v _ e (bad_witness line r) = let no : BadWitness line ≡ Unsafe w h at way = e in cc
  no_unsafe_replay m p v _ e (failing c k bt b s x f) = let no : Failing k bt b ≡ Unsafe w h at way = e in cc
  no_unsafe_replay m p v _ e (rejected c r s b n) = let no : Rejected p r ≡ Unsafe w h at way = e in cc

  no_unsafe_log : (a : LogAnswer) → OfLog a ≢ Unsafe w h at way
  no_unsafe_log a e = cc

  no_unsafe_migration : (m : MemoryModel) (p : Checked) (old : List ℕ) (name : Word) (a : Answer) (kept : Option Kept) → a ≡ Unsafe w h at way → IsMigrated m p old name a kept → ⊥
  no_unsafe_migration m p old name _ _ e (migrated n new i) = let no : Migrated n ≡ Unsafe w h at way = e in cc
  no_unsafe_migration m p old name _ _ e (refused a i) = no_unsafe_log a e

  is_unsafe : (s : Settings) (texts : List (List ℕ)) (a : Answer) (kept : Option Kept) → a ≡ Unsafe w h at way → IsAnswer s texts a kept → IsUnsafe s texts w h at way
  is_unsafe s _ _ _ e (refused text others r d) = absurd (let no : Refused r ≡ Unsafe w h at way = e in cc)
  is_unsafe s _ a kept e (verified text p l x b k j acc v) =
      record { text = text; program = p; texts_are = refl; accepted = acc; shows = shows_it s.model (effort_of s) p l x b k e v }
  is_unsafe s _ a _ e (replayed text v p b j acc x) = absurd (no_unsafe_replay s.model p v b e x)
  is_unsafe s _ _ _ e (checked text l p a j acc v) = absurd (no_unsafe_log a e)
  is_unsafe s _ a kept e (migrated text old p name b k j acc v) = absurd (no_unsafe_migration s.model p old name b k e v)
  is_unsafe s _ _ _ e (made n j) = absurd (let no : Made n ≡ Unsafe w h at way = e in cc)
  is_unsafe s _ _ _ e (made_and_verified n p a j acc v) = absurd (let no : MadeVerdict n a ≡ Unsafe w h at way = e in cc)
  is_unsafe s _ _ _ e (made_and_refused n r j d) = absurd (let no : Refused r ≡ Unsafe w h at way = e in cc)

-- ---- the laws

one_result : {T E : Type 0} (r : Result T E) (x y : T) → r ≡ Ok x → r ≡ Ok y → x ≡ y
one_result r x y e f = let same : Ok x ≡ Ok y = sym e ∙ f in cc

module _ (one_checked : OneChecked) where
  clash : (s : Settings) (texts : List (List ℕ)) (w : List ℕ) (h : ℕ) (at : Place) (way : Bool) → IsSafe s texts → IsUnsafe s texts w h at way → ⊥
  clash s texts w h at way x y =
      let lists : x.text ∷ [] ≡ y.text ∷ [] = sym x.texts_are ∙ y.texts_are in
      let text : y.text ≡ x.text = cc in
      let program : y.program ≡ x.program = one_checked s.bound s.full x.text y.program x.program (subst (λ (t : List ℕ). IsAccepted s.bound s.full t y.program) text y.accepted) x.accepted in
      x.none y.shows.candidate (subst (λ (p : Checked). ProgramFails p s.model y.shows.candidate) program y.shows.fails)

  pub safe_excludes : SafeExcludesUnsafe
  safe_excludes words files w h at way kept also x y =
      let one = asked words files Safe kept (λ e f. cc) (λ name e. cc) x in
      let other = asked words files (Unsafe w h at way) also (λ e f. cc) (λ name e. cc) y in
      let same : other.settings ≡ one.settings = one_result (settings_of words) other.settings one.settings other.are one.are in
      let s = one.settings in
      let texts = map (contents files) s.files in
      let second : IsAnswer s texts (Unsafe w h at way) other.kept = subst (λ (s : Settings). IsAnswer s (map (contents files) s.files) (Unsafe w h at way) other.kept) same other.answered in
      clash s texts w h at way (is_safe s texts Safe one.kept refl one.answered) (is_unsafe w h at way s texts (Unsafe w h at way) other.kept refl second)

pub is_replayed : UnsafeIsReplayed
is_replayed s text w h at way kept x =
    let y = is_unsafe w h at way s (text ∷ []) (Unsafe w h at way) kept refl x in
    let lists : text ∷ [] ≡ y.text ∷ [] = y.texts_are in
    let same : y.text ≡ text = cc in
    replayed text w y.program (Failing h at way) refl (subst (λ (t : List ℕ). IsAccepted s.bound s.full t y.program) same y.accepted)
    (failing y.shows.candidate h at way y.shows.spells y.shows.fails y.shows.first)
