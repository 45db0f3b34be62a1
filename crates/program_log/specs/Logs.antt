-- A program's log: what its text is, what is answered of a text, and when it is brought into the format with hints.
use Rattle.std.specs.Prelude.{◌≡◌, ◌≢◌, ◌<◌, ◌+◌, ℕ, false, List, All, length}
use Rattle.axiom_model.specs.declared.MemoryModel.{MemoryModel}
use Rattle.c_check.specs.declared.checked.Checked.{Checked}
use Rattle.flat_prog.specs.declared.Flat.{Flat}
use Rattle.cnf_problem.specs.declared.problem.Problem.{Problem}
use Rattle.encode_match.specs.declared.Encoded.{Encoded}
use Rattle.encode_match.specs.Parts.{IsChain}
use Rattle.line_text.specs.Lines.{Refuses}
use Rattle.lemma_log.specs.declared.Entry.{Entry}
use Rattle.lemma_log.specs.declared.hints.HintedLog.{HintedLog}
use Rattle.lemma_log.specs.declared.hints.AnyLog.{AnyLog}
use Rattle.lemma_log.specs.declared.hints.AnyLog.TheVariants.{Plain, Hinted}
use Rattle.log_text.specs.Formats.{Written, head_lines}
use Rattle.log_text.specs.Spelling.{Spells, written}
use Rattle.log_checker.specs.declared.refused.Refused.{Refused as Refusal}
use Rattle.log_checker.specs.Goodness.{EndsEmpty, IsGood}
use Rattle.log_checker.specs.Hints.{IsGoodHinted}
use Rattle.log_checker.specs.Refusals.{Fails, HintedFails}
use Rattle.program_log.specs.declared.answers.LogAnswer.{LogAnswer}
use Rattle.program_log.specs.declared.answers.LogAnswer.TheVariants.{Accepted, OtherProblem, Refused, BadLog}
use Rattle.program_log.specs.declared.answers.Migration.{Migration}
use Rattle.program_log.specs.declared.answers.Migration.TheVariants as migration
use Rattle.program_log.specs.Heads.{FirstOther, head_of}

-- ---- logs

-- the problem is the one that the chain makes of the program under the model
abbrev pub IsChainOf : Checked → MemoryModel → Encoded → Type 0
IsChainOf p m x = (flat : Flat) × IsChain p m flat x

-- the workers are numbered as a text may tell them
abbrev pub HaveWorkers : List Entry → Type 0
HaveWorkers entries = All (λ (e : Entry). e.worker < 16) entries

abbrev pub entries_of : AnyLog → List Entry
entries_of (Plain log) = log.entries
entries_of (Hinted h) = h.log.entries

-- a log is good by its entries, one with hints by these
abbrev pub IsGoodLog : Problem → AnyLog → Type 0
IsGoodLog q (Plain log) = IsGood q log.entries
IsGoodLog q (Hinted h) = IsGoodHinted q h.log.entries h.hints

-- and so it is refused
abbrev pub LogFails : Problem → AnyLog → Refusal → Type 0
LogFails q (Plain log) r = Fails q log.entries r
LogFails q (Hinted h) r = HintedFails q h.log.entries h.hints r

-- ---- texts

-- the text is that of this log, in either format, of the program's problem
abbrev pub IsLogText : Checked → Encoded → AnyLog → List ℕ → Type 0
IsLogText p x log text = Spells false (written (head_of p x) log) text

-- the text is, in the format with hints, that of the program's problem and a good hinted log of these entries
pub record IsHintedText (p : Checked) (x : Encoded) (entries : List Entry) (text : List ℕ) : Type 0 where
  pub hinted : HintedLog
  pub same : hinted.log.entries ≡ entries
  pub good : IsGoodHinted x.problem hinted.log.entries hinted.hints
  pub spelled : IsLogText p x (Hinted hinted) text

-- the text is that of a good log of the program's problem, the last entry of which is the empty clause
pub record IsProofText (p : Checked) (x : Encoded) (log : AnyLog) (text : List ℕ) : Type 0 where
  pub spelled : IsLogText p x log text
  pub good : IsGoodLog x.problem log
  pub empty : EndsEmpty (entries_of log)

-- ---- the answer of a check

-- for one problem of the program
pub data IsAnswerFor (p : Checked) (x : Encoded) (text : List ℕ) : LogAnswer → Type 0 where
  bad_log : (line : ℕ) → Refuses (Spells false) text line → IsAnswerFor p x text (BadLog line)
  other_problem : (w : Written) (place : ℕ) (theirs ours : List ℕ) → Spells false w text → FirstOther (head_lines w.head) (head_lines (head_of p x)) place theirs ours
      → IsAnswerFor p x text (OtherProblem (place + 2) theirs ours)
  refused : (log : AnyLog) (r : Refusal) → IsLogText p x log text → LogFails x.problem log r → IsAnswerFor p x text (Refused r)
  accepted : (log : AnyLog) → IsProofText p x log text → IsAnswerFor p x text (Accepted (length (entries_of log)))

-- of a log's text for a program under a model
pub record IsCheck (m : MemoryModel) (p : Checked) (text : List ℕ) (a : LogAnswer) : Type 0 where
  pub encoded : Encoded
  pub chain : IsChainOf p m encoded
  pub answer : IsAnswerFor p encoded text a

-- ---- the answer of a migration

-- the new text is, with hints, that of the old text's log, which has so many entries
pub record IsAnew (p : Checked) (x : Encoded) (old : List ℕ) (count : ℕ) (new : List ℕ) : Type 0 where
  pub log : AnyLog
  pub proof : IsProofText p x log old
  pub kept : IsHintedText p x (entries_of log) new
  pub counted : count ≡ length (entries_of log)

pub data IsMigrationFor (p : Checked) (x : Encoded) (old : List ℕ) : Migration → Type 0 where
  migrated : (count : ℕ) (new : List ℕ) → IsAnew p x old count new → IsMigrationFor p x old (migration.Migrated count new)
  refused : (a : LogAnswer) → IsAnswerFor p x old a → ((n : ℕ) → a ≢ Accepted n) → IsMigrationFor p x old (migration.Refused a)

pub record IsMigration (m : MemoryModel) (p : Checked) (old : List ℕ) (a : Migration) : Type 0 where
  pub encoded : Encoded
  pub chain : IsChainOf p m encoded
  pub answer : IsMigrationFor p encoded old a
