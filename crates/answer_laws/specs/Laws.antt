-- That there always is an answer, and what it rests on. The logic has no excluded middle, so where there are several cases a law
-- says that it is impossible that each of them is impossible.
use Rattle.std.specs.Prelude.{◌≡◌, ◌≢◌, ℕ, Bool, List, Option, None, IfOk}
use Rattle.dg_base.specs.declared.outside.FileEntry.{FileEntry}
use Rattle.axiom_model.specs.declared.Candidate.{Candidate}
use Rattle.axiom_model.specs.declared.MemoryModel.{MemoryModel}
use Rattle.axiom_model.specs.Execution.{Execution}
use Rattle.axiom_model.specs.Failing.{HasWords}
use Rattle.axiom_model.specs.Models.{Consistent}
use Rattle.axiom_model.specs.WellMade.{Shape, WellMade}
use Rattle.c_check.specs.declared.checked.Checked.{Checked}
use Rattle.c_check.specs.WellFormed.{IsChecked}
use Rattle.consistency.specs.declared.Inconsistent.{Inconsistent}
use Rattle.consistency.specs.declared.Inconsistent.TheVariants as inconsistent
use Rattle.consistency.specs.Evidence.{IsEvidence}
use Rattle.run_model.specs.Threads.{ProgramFails}
use Rattle.exec_check.specs.declared.Reject.{Reject}
use Rattle.exec_check.specs.declared.Reject.TheVariants as reject
use Rattle.exec_check.specs.Broken.{IsFirstBroken}
use Rattle.line_text.specs.Lines.{Refuses}
use Rattle.witness_text.specs.Spelling.{Spells}
use Rattle.c_program.specs.Accepting.{IsAccepted}
use Rattle.program_verdict.specs.declared.Effort.{Effort}
use Rattle.word_settings.specs.declared.settings.Job.{Job}
use Rattle.word_settings.specs.declared.settings.Job.TheVariants as job
use Rattle.word_settings.specs.Settings.{Word, settings_of}
use Rattle.dg_top.specs.Answers.{Allowed, Answer, IsReplay, IsVerdict, Kept}

-- each text spells a value or is refused at a line
abbrev pub IsSpelledOrRefused : {V : Type 0} → (V → List ℕ → Type 0) → Type 0
IsSpelledOrRefused {V} Spells = (text : List ℕ) → ((v : V) → Spells v text → ⊥) → ((line : ℕ) → Refuses Spells text line → ⊥) → ⊥

-- so it is with the texts of witnesses
abbrev pub WitnessesAreSpelledOrRefused : Type 0
WitnessesAreSpelledOrRefused = (functions cells : List (List ℕ)) → IsSpelledOrRefused (Spells functions cells)

-- a model allows an execution against which there is no evidence
abbrev pub UnopposedIsConsistent : Type 0
UnopposedIsConsistent = (s : Shape) (x : Execution) (m : MemoryModel) → WellMade s x → ((e : Inconsistent) → e ≢ inconsistent.OutOfMemory → IsEvidence m x e → ⊥) → Consistent m x

-- a candidate of words that breaks no condition first is a failing execution
abbrev pub UnbrokenFails : Type 0
UnbrokenFails = (p : Checked) (m : MemoryModel) (c : Candidate) → IsChecked p → HasWords c → ((e : Reject) → e ≢ reject.OutOfMemory → IsFirstBroken p m c e → ⊥) → ProgramFails p m c

-- of each text given as a witness for a checked program something is answered
abbrev pub SomeReplayIsAllowed : Type 0
SomeReplayIsAllowed = (m : MemoryModel) (p : Checked) (witness : List ℕ) → IsChecked p → ((a : Answer) → IsReplay m p witness a → ⊥) → ⊥

-- of each accepted text there is a verdict, where no file is named for its log
abbrev pub SomeVerdictIsAllowed : Type 0
SomeVerdictIsAllowed =
    (bound : ℕ) (full : Bool) (text : List ℕ) (m : MemoryModel) (effort : Effort) (p : Checked) (witness : Option Word) → IsAccepted bound full text p
    → ((a : Answer) (kept : Option Kept) → IsVerdict m effort p None witness a kept → ⊥) → ⊥

-- the job neither reads nor keeps a log
abbrev pub NeedsNoLog : Job → Type 0
NeedsNoLog (job.Verify log witness) = log ≡ None
NeedsNoLog job.Replay = Unit {0}
NeedsNoLog job.Check = ⊥
NeedsNoLog (job.Migrate new) = ⊥
NeedsNoLog (job.Make number run) = Unit {0}

-- the words ask for nothing, or for such a job
abbrev pub ReadsAndKeepsNoLog : List Word → Type 0
ReadsAndKeepsNoLog words = IfOk (settings_of words) (λ s. NeedsNoLog s.job)

-- for such words some answer is always allowed
abbrev pub SomeAnswerIsAllowed : Type 0
SomeAnswerIsAllowed =
    (words : List Word) (files : List FileEntry) → ReadsAndKeepsNoLog words → ((a : Answer) (kept : Option Kept) → Allowed words files a kept → ⊥) → ⊥
