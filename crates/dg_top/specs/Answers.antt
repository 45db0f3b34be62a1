-- The answers of the top call: when each comes, its status, and what it prints.
use Rattle.std.specs.Prelude.{◌≡◌, ◌≢◌, ℕ, nat_lt, Bool, true, false, List, [], ◌∷◌, ◌++◌, Option, Some, None, Ok, Err, if◌then◌else◌, codes, decimal, flat_map, length, map}
use Rattle.dg_base.specs.declared.Place.{Place}
use Rattle.dg_base.specs.declared.refusal.Refusal.{Refusal}
use Rattle.dg_base.specs.declared.outside.FileEntry.{FileEntry}
use Rattle.dg_base.specs.declared.outside.TheConstants.{LONGEST_FILE}
use Rattle.dg_base.specs.Outside.{contents}
use Rattle.axiom_model.specs.declared.Candidate.{Candidate}
use Rattle.axiom_model.specs.declared.MemoryModel.{MemoryModel}
use Rattle.axiom_model.specs.Failing.{FailsFirst}
use Rattle.c_check.specs.declared.checked.Checked.{Checked}
use Rattle.c_check.specs.PlainNames.{cell_names}
use Rattle.run_model.specs.Threads.{ProgramFails}
use Rattle.exec_check.specs.declared.Reject.{Reject}
use Rattle.exec_check.specs.declared.Reject.TheVariants as reject
use Rattle.exec_check.specs.Broken.{IsFirstBroken}
use Rattle.line_text.specs.Lines.{Refuses}
use Rattle.line_text.specs.Words.{shown}
use Rattle.witness_text.specs.Spelling.{Spells}
use Rattle.c_program.specs.Accepting.{IsAccepted, IsRefused}
use Rattle.verdict_run.specs.declared.decision.Report.{Report}
use Rattle.program_verdict.specs.declared.Effort.{Effort}
use Rattle.program_log.specs.declared.answers.LogAnswer.{LogAnswer}
use Rattle.program_log.specs.declared.answers.Migration.TheVariants as migration
use Rattle.program_log.specs.Logs.{IsCheck, IsHintedText, IsMigration}
use Rattle.program_verdict.specs.Verdicts.{IsKeptProof, IsUndecided}
use Rattle.prog_maker.specs.Made.{made_text}
use Rattle.word_settings.specs.declared.fault.WordsFault.{WordsFault}
use Rattle.word_settings.specs.declared.settings.Job.TheVariants as job
use Rattle.word_settings.specs.declared.settings.Settings.{Settings}
use Rattle.word_settings.specs.Settings.{Word, fault_name, settings_of}
use Rattle.dg_top.specs.LogLines.{log_answer_text, log_status}
use Rattle.dg_top.specs.RefusalText.{place_text, refusal_text}
use Rattle.dg_top.specs.RejectText.{reject_text}

-- an answer, with the values that it shows
pub data Answer : Type 0 where
  -- no execution fails
  Safe : Answer
  -- this text is a witness of a failing execution; the handle and the place of its failing thread, and whether it spends a bound there
  Unsafe : List ℕ → ℕ → Place → Bool → Answer
  -- the search ended without a verdict; the numbers of its workers
  Unknown : List Report → Answer
  -- the witness that was given is a failing execution; the same of its failing thread
  Failing : ℕ → Place → Bool → Answer
  -- the witness is no failing execution of this program
  Rejected : Checked → Reject → Answer
  -- what is said of a log that was given: it is accepted, it is refused, it is of another problem, its text goes wrong
  OfLog : LogAnswer → Answer
  -- a log of so many entries is kept anew, with hints
  Migrated : ℕ → Answer
  -- the program with so many copies
  Made : ℕ → Answer
  -- that program was verified, and this is its verdict
  MadeVerdict : ℕ → Answer → Answer
  -- the words ask for nothing
  BadWords : WordsFault → Answer
  -- the program's text is refused
  Refused : Refusal → Answer
  -- the witness's text goes wrong at this line
  BadWitness : ℕ → Answer
  -- the file of this name is too long
  LongFile : Word → Answer

-- a file that is kept, and its bytes
pub record Kept : Type 0 where
  pub name : Word
  pub bytes : List ℕ

-- where a file is named, such bytes are kept in it, and where none is, nothing is kept
pub data KeepsIn (P : List ℕ → Type 0) : Option Word → Option Kept → Type 0 where
  nothing : KeepsIn P None None
  bytes : (name : Word) (text : List ℕ) → P text → KeepsIn P (Some name) (Some (record { name = name; bytes = text }))

-- What is answered of a program under a model, where so much is searched; and what is kept, where a file is named for the log or for
-- the witness.
pub data IsVerdict (m : MemoryModel) (effort : Effort) (p : Checked) (log witness : Option Word) : Answer → Option Kept → Type 0 where
  safe : (kept : Option Kept) → ((c : Candidate) → ProgramFails p m c → ⊥) → KeepsIn (IsKeptProof p m) log kept → IsVerdict m effort p log witness Safe kept
  unsafe : (c : Candidate) (text : List ℕ) (handle : ℕ) (at : Place) (bound : Bool) (kept : Option Kept) → Spells p.functions (cell_names p.cells) c text
      → (x : ProgramFails p m c) → FailsFirst c x.allowed.threads handle at bound → KeepsIn (λ t. t ≡ text) witness kept → IsVerdict m effort p log witness (Unsafe text handle at bound) kept
  unknown : (reports : List Report) (kept : Option Kept) → (u : IsUndecided p m effort reports) → KeepsIn (IsHintedText p u.encoded u.log) log kept
      → IsVerdict m effort p log witness (Unknown reports) kept

-- what is answered of a witness's text for a program under a model
pub data IsReplay (m : MemoryModel) (p : Checked) (witness : List ℕ) : Answer → Type 0 where
  bad_witness : (line : ℕ) → Refuses (Spells p.functions (cell_names p.cells)) witness line → IsReplay m p witness (BadWitness line)
  failing : (c : Candidate) (handle : ℕ) (at : Place) (bound : Bool) → Spells p.functions (cell_names p.cells) c witness → (x : ProgramFails p m c)
      → FailsFirst c x.allowed.threads handle at bound → IsReplay m p witness (Failing handle at bound)
  rejected : (c : Candidate) (e : Reject) → Spells p.functions (cell_names p.cells) c witness → IsFirstBroken p m c e → e ≢ reject.OutOfMemory
      → IsReplay m p witness (Rejected p e)

-- what is answered of an old log's text for a program under a model, and what is kept: the log anew in the file of this name, where it is accepted
pub data IsMigrated (m : MemoryModel) (p : Checked) (old : List ℕ) (name : Word) : Answer → Option Kept → Type 0 where
  migrated : (n : ℕ) (new : List ℕ) → IsMigration m p old (migration.Migrated n new) → IsMigrated m p old name (Migrated n) (Some (record { name = name; bytes = new }))
  refused : (a : LogAnswer) → IsMigration m p old (migration.Refused a) → IsMigrated m p old name (OfLog a) None

-- how much is searched
abbrev pub effort_of : Settings → Effort
effort_of s = record { workers = s.workers; budget = s.budget; share_words = s.share }

-- What is answered of the texts of a job's files, and what is kept. A refusal of the program comes before all that is said of it.
pub data IsAnswer (s : Settings) : List (List ℕ) → Answer → Option Kept → Type 0 where
  refused : (text : List ℕ) (others : List (List ℕ)) (e : Refusal) → IsRefused s.bound text e → IsAnswer s (text ∷ others) (Refused e) None
  verified : (text : List ℕ) (p : Checked) (log witness : Option Word) (a : Answer) (kept : Option Kept) → s.job ≡ job.Verify log witness
      → IsAccepted s.bound s.full text p → IsVerdict s.model (effort_of s) p log witness a kept → IsAnswer s (text ∷ []) a kept
  replayed : (text witness : List ℕ) (p : Checked) (a : Answer) → s.job ≡ job.Replay → IsAccepted s.bound s.full text p → IsReplay s.model p witness a
      → IsAnswer s (text ∷ witness ∷ []) a None
  checked : (text log : List ℕ) (p : Checked) (a : LogAnswer) → s.job ≡ job.Check → IsAccepted s.bound s.full text p → IsCheck s.model p log a
      → IsAnswer s (text ∷ log ∷ []) (OfLog a) None
  migrated : (text old : List ℕ) (p : Checked) (name : Word) (a : Answer) (kept : Option Kept) → s.job ≡ job.Migrate name → IsAccepted s.bound s.full text p
      → IsMigrated s.model p old name a kept → IsAnswer s (text ∷ old ∷ []) a kept
  made : (n : ℕ) → s.job ≡ job.Make n false → IsAnswer s [] (Made n) None
  made_and_verified : (n : ℕ) (p : Checked) (a : Answer) → s.job ≡ job.Make n true → IsAccepted s.bound s.full (made_text n) p
      → IsVerdict s.model (effort_of s) p None None a None → IsAnswer s [] (MadeVerdict n a) None
  made_and_refused : (n : ℕ) (e : Refusal) → s.job ≡ job.Make n true → IsRefused s.bound (made_text n) e → IsAnswer s [] (Refused e) None

-- the first of the names whose file is too long
abbrev pub first_long : List FileEntry → List Word → Option Word
first_long files [] = None
first_long files (name ∷ names) = if nat_lt LONGEST_FILE (length (contents files name)) then Some name else first_long files names

-- what is answered of a job's files
pub data IsAnswerOf (s : Settings) (files : List FileEntry) : Answer → Option Kept → Type 0 where
  long_file : (name : Word) → first_long files s.files ≡ Some name → IsAnswerOf s files (LongFile name) None
  answer : (a : Answer) (kept : Option Kept) → first_long files s.files ≡ None → IsAnswer s (map (contents files) s.files) a kept → IsAnswerOf s files a kept

-- the answers that words and files allow, each with what is kept
pub data Allowed (words : List Word) (files : List FileEntry) : Answer → Option Kept → Type 0 where
  bad_words : (e : WordsFault) → settings_of words ≡ Err e → Allowed words files (BadWords e) None
  job_done : (s : Settings) (a : Answer) (kept : Option Kept) → settings_of words ≡ Ok s → IsAnswerOf s files a kept → Allowed words files a kept

abbrev pub status_of : Answer → ℕ
status_of Safe = 0
status_of (Unsafe witness handle at bound) = 1
status_of (Unknown reports) = 2
status_of (Failing handle at bound) = 0
status_of (Rejected p e) = 1
status_of (OfLog a) = log_status a
status_of (Migrated n) = 0
status_of (Made n) = 0
status_of (MadeVerdict n a) = status_of a
status_of (BadWords e) = 3
status_of (Refused e) = 4
status_of (BadWitness line) = 4
status_of (LongFile name) = 4

abbrev pub line_feed : List ℕ
line_feed = 10 ∷ []

abbrev pub bound_text : Bool → List ℕ
bound_text true = codes " bound"
bound_text false = []

-- `WORD thread H at L:C`, or where a bound is spent `WORD bound thread H at L:C`
abbrev pub failing_line : List ℕ → ℕ → Place → Bool → List ℕ
failing_line word handle at bound = word ++ bound_text bound ++ codes " thread " ++ decimal handle ++ codes " at " ++ place_text at ++ line_feed

-- `worker I entries N read COUNT COUNT ..`
abbrev pub report_line : Report → List ℕ
report_line r = codes "worker " ++ decimal r.worker ++ codes " entries " ++ decimal r.entries ++ codes " read" ++ shown decimal r.reads ++ line_feed

-- the first word of a verdict
abbrev pub verdict_word : Answer → List ℕ
verdict_word Safe = codes "SAFE"
verdict_word (Unsafe witness handle at bound) = codes "UNSAFE"
verdict_word (Unknown reports) = codes "UNKNOWN"
verdict_word _ = []

-- `made N bytes B WORD`
abbrev pub made_line : ℕ → Answer → List ℕ
made_line n a = codes "made " ++ decimal n ++ codes " bytes " ++ decimal (length (made_text n)) ++ codes " " ++ verdict_word a ++ line_feed

abbrev pub text_of : Answer → List ℕ
text_of Safe = codes "SAFE" ++ line_feed
text_of (Unsafe witness handle at bound) = failing_line (codes "UNSAFE") handle at bound ++ witness
text_of (Unknown reports) = codes "UNKNOWN" ++ line_feed ++ flat_map report_line reports
text_of (Failing handle at bound) = failing_line (codes "FAILING") handle at bound
text_of (Rejected p e) = codes "REFUSED " ++ reject_text (cell_names p.cells) e ++ line_feed
text_of (OfLog a) = log_answer_text a
text_of (Migrated n) = codes "MIGRATED " ++ decimal n ++ line_feed
text_of (Made n) = made_text n
text_of (MadeVerdict n a) = made_line n a
text_of (BadWords e) = codes "words " ++ fault_name e ++ line_feed
text_of (Refused e) = codes "refused " ++ refusal_text e ++ line_feed
text_of (BadWitness line) = codes "refused W1 WitnessText " ++ decimal line ++ line_feed
text_of (LongFile name) = codes "refused Long " ++ name ++ line_feed
