-- A reply as an answer's status and text, with the file that is kept.
use Rattle.std.specs.Prelude.{◌≡◌, ℕ, ◌<◌, ◌≤◌, List, [], ◌∷◌, ◌++◌, Option, Some, None, Result, Ok, Err, Contains, IfSome, length, option_map, string_bytes}
use Rattle.dg_base.specs.declared.outside.FileEntry.{FileEntry}
use Rattle.dg_base.specs.declared.outside.TheConstants.{LONGEST_FILE}
use Rattle.dg_base.specs.declared.outside.Operation.TheVariants.{Fetch, Keep, Print}
use Rattle.dg_base.specs.Outside.{Faults, IsFault, Told, contents}
use Rattle.axiom_model.specs.declared.MemoryModel.{MemoryModel}
use Rattle.c_check.specs.declared.checked.Checked.{Checked}
use Rattle.c_check.specs.PlainNames.{cell_names}
use Rattle.witness_text.specs.Spelling as spelling
use Rattle.program_verdict.specs.declared.Effort.{Effort}
use Rattle.program_verdict.specs.declared.Failure.{Failure}
use Rattle.word_settings.specs.declared.fault.WordsFault.{WordsFault}
use Rattle.word_settings.specs.declared.settings.Job.{Job}
use Rattle.word_settings.specs.declared.settings.Job.TheVariants as job
use Rattle.word_settings.specs.declared.settings.Settings.{Settings}
use Rattle.word_settings.specs.Settings.{Word}
use Rattle.dg_top.specs.declared.reply.Keeping.{Keeping}
use Rattle.dg_top.specs.declared.reply.Reply.{Reply}
use Rattle.dg_top.specs.Answers.{Answer, IsReplay, IsVerdict, Kept, KeepsIn, Unsafe, status_of, text_of}

-- ---- replies

abbrev pub kept_of : Keeping → Kept
kept_of k = record { name = string_bytes k.name; bytes = k.bytes }

-- what is kept of a text: where there is one, it goes into the file that is named
abbrev pub kept_in : Option Word → Option (List ℕ) → Option Kept
kept_in (Some name) (Some text) = Some (record { name = name; bytes = text })
kept_in (Some name) None = None
kept_in None text = None

-- the reply is this answer, and this is kept
pub record Spells (a : Answer) (kept : Option Kept) (r : Reply) : Type 0 where
  pub status : r.status ≡ status_of a
  pub text : r.text.items ≡ text_of a
  pub keeps : option_map kept_of r.kept ≡ kept

-- the reply is the answer with this failing execution, by a text that spells it, which is kept where a file is named
pub record IsUnsafe (p : Checked) (f : Failure) (file : Option Word) (r : Reply) : Type 0 where
  pub witness : List ℕ
  pub kept : Option Kept
  pub spells : spelling.Spells p.functions (cell_names p.cells) f.candidate witness
  pub keeps : KeepsIn (λ t. t ≡ witness) file kept
  pub spelled : Spells (Unsafe witness f.handle f.place f.bound) kept r

-- the reply is one of these answers, with what is kept
pub record IsOneOf (P : Answer → Option Kept → Type 0) (r : Reply) : Type 0 where
  pub answer : Answer
  pub kept : Option Kept
  pub allowed : P answer kept
  pub spelled : Spells answer kept r

-- the answer is a verdict, however much is searched and whatever file is named for a log
abbrev pub IsFailureReply : MemoryModel → Checked → Option Word → Answer → Option Kept → Type 0
IsFailureReply m p witness a kept = (effort : Effort) (log : Option Word) → IsVerdict m effort p log witness a kept

-- the answer is of a witness, and nothing is kept
abbrev pub OfWitness : MemoryModel → Checked → List ℕ → Answer → Option Kept → Type 0
OfWitness m p witness a kept = IsReplay m p witness a × (kept ≡ None)

-- the reply is an answer, one that the files allow where they are told
pub record Replies (P : List FileEntry → Answer → Option Kept → Type 0) (files : Option (List FileEntry)) (r : Reply) : Type 0 where
  pub answer : Answer
  pub kept : Option Kept
  pub allowed : Told (λ fs. P fs answer kept) files
  pub spelled : Spells answer kept r

-- a refusal keeps nothing, and what is kept has one of these names
pub record KeepsAmong (names : List Word) (r : Reply) : Type 0 where
  pub unless_refused : 3 ≤ r.status → r.kept ≡ None
  pub named : IfSome r.kept (λ k. Contains names (string_bytes k.name))

-- ---- files

-- the bytes of the file of this name, or none where they are too many
abbrev pub IsFetched : List FileEntry → Word → Option (List ℕ) → Type 0
IsFetched files name None = LONGEST_FILE < length (contents files name)
IsFetched files name (Some bytes) = (bytes ≡ contents files name) × (length bytes ≤ LONGEST_FILE)

-- the files that a job may keep
abbrev pub kept_names : Job → List Word
kept_names (job.Verify log witness) = named log ++ named witness
  where
    named : Option Word → List Word
    named None = []
    named (Some name) = name ∷ []
kept_names job.Replay = []
kept_names job.Check = []
kept_names (job.Migrate new) = new ∷ []
kept_names (job.Make number run) = []

-- the files that words ask to read, and those that they allow to keep
abbrev pub files_read : Result Settings WordsFault → List Word
files_read (Ok s) = s.files
files_read (Err e) = []

abbrev pub files_kept : Result Settings WordsFault → List Word
files_kept (Ok s) = kept_names s.job
files_kept (Err e) = []

-- ---- faults

-- a fetch of one of these files failed
pub record FetchFails (names : List Word) (before now : Faults) : Type 0 where
  pub name : Word
  pub is_named : Contains names name
  pub fault : IsFault Fetch name before now

-- a print failed, or a keep of one of these files
pub data OutputFails (names : List Word) (before now : Faults) : Type 0 where
  print : IsFault Print [] before now → OutputFails names before now
  keep : (name : Word) → Contains names name → IsFault Keep name before now → OutputFails names before now
