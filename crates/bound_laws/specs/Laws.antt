-- What a verdict says of larger bounds on loops, where spent bounds are told.
use Rattle.std.specs.Prelude.{◌≡◌, ◌≤◌, ℕ, Bool, true, List, [], ◌∷◌, Option, Ok, map}
use Rattle.dg_base.specs.declared.outside.FileEntry.{FileEntry}
use Rattle.dg_base.specs.Outside.{contents}
use Rattle.axiom_model.specs.declared.MemoryModel.{MemoryModel}
use Rattle.axiom_model.specs.declared.Candidate.{Candidate}
use Rattle.c_check.specs.declared.checked.Checked.{Checked}
use Rattle.run_model.specs.Threads.{ProgramFails}
use Rattle.c_program.specs.Accepting.{IsAccepted}
use Rattle.word_settings.specs.declared.settings.Settings.{Settings}
use Rattle.word_settings.specs.Settings.{Word, settings_of}
use Rattle.full_bound.specs.FullBound.{HasWordsOnly}
use Rattle.dg_top.specs.Answers.{Allowed, Kept, Safe}
use Rattle.dg_top.specs.Laws.{HasNoFailure}

-- the same program for the bound j, with spent bounds told or not; j is any number, also one that no words can ask for
abbrev pub at_bound : Checked → ℕ → Bool → Checked
at_bound p j told = record p { k = j; full = told }

-- no execution of the program fails for its bound or a larger one, whether spent bounds are told or not
abbrev pub IsCovered : MemoryModel → Checked → Type 0
IsCovered m p = (j : ℕ) (told : Bool) (c : Candidate) → p.k ≤ j → ProgramFails (at_bound p j told) m c → ⊥

-- the constants and the initial values of each accepted text are words
abbrev pub AcceptedHasWordsOnly : Type 0
AcceptedHasWordsOnly = (bound : ℕ) (full : Bool) (text : List ℕ) (p : Checked) → IsAccepted bound full text p → HasWordsOnly p

-- where spent bounds are told and the text has no failure, its program is covered
abbrev pub NoFailureIsCovered : Type 0
NoFailureIsCovered = (s : Settings) (text : List ℕ) (p : Checked) → s.full ≡ true → HasNoFailure s text → IsAccepted s.bound s.full text p → IsCovered s.model p

-- the job reads this one text
abbrev pub ReadsOne : Settings → List FileEntry → List ℕ → Type 0
ReadsOne s files text = map (contents files) s.files ≡ text ∷ []

-- where SAFE is allowed, one text is read, which is an accepted program
abbrev pub SafeIsOfProgram : Type 0
SafeIsOfProgram =
    (words : List Word) (files : List FileEntry) (kept : Option Kept) (s : Settings) → settings_of words ≡ Ok s → Allowed words files Safe kept
    → (text : List ℕ) × (p : Checked) × ReadsOne s files text × IsAccepted s.bound s.full text p

-- and where spent bounds are told, that program is covered
abbrev pub SafeIsCovered : Type 0
SafeIsCovered =
    (words : List Word) (files : List FileEntry) (kept : Option Kept) (s : Settings) (text : List ℕ) (p : Checked) → settings_of words ≡ Ok s → s.full ≡ true
    → Allowed words files Safe kept → ReadsOne s files text → IsAccepted s.bound s.full text p → IsCovered s.model p
