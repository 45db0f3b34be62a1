-- What each verdict on a program says.
use Rattle.std.specs.Prelude.{◌≡◌, ◌≤◌, ℕ, Bool, true, false, List, Option, Some, None}
use Rattle.axiom_model.specs.declared.Candidate.{Candidate}
use Rattle.axiom_model.specs.declared.MemoryModel.{MemoryModel}
use Rattle.axiom_model.specs.Failing.{FailsFirst}
use Rattle.c_check.specs.declared.checked.Checked.{Checked}
use Rattle.run_model.specs.Threads.{ProgramFails}
use Rattle.lemma_log.specs.declared.Entry.{Entry}
use Rattle.encode_match.specs.declared.Encoded.{Encoded}
use Rattle.encode_match.specs.Encoding.{IsEncoding}
use Rattle.log_checker.specs.Goodness.{EndsEmpty}
use Rattle.program_log.specs.Logs.{IsChainOf, IsHintedText}
use Rattle.verdict_run.specs.declared.decision.Report.{Report}
use Rattle.verdict_run.specs.Decisions.{IsGood, IsUnknown}
use Rattle.program_verdict.specs.declared.Effort.{Effort}
use Rattle.program_verdict.specs.declared.Failure.{Failure}
use Rattle.program_verdict.specs.declared.ProgramVerdict.{ProgramVerdict}
use Rattle.program_verdict.specs.declared.ProgramVerdict.TheVariants.{Safe, Unsafe, Unknown}

-- the effort is within the limits of a search
pub record IsAffordable (e : Effort) : Type 0 where
  pub some_worker : 1 ≤ e.workers
  pub few_workers : e.workers ≤ 16
  pub some_budget : 1 ≤ e.budget
  pub low_budget : e.budget ≤ 1000000
  pub few_words : e.share_words ≤ 1048576

-- the candidate is a failing execution of the program, and this is its failing thread
pub record IsFailure (p : Checked) (m : MemoryModel) (f : Failure) : Type 0 where
  pub fails : ProgramFails p m f.candidate
  pub first : FailsFirst f.candidate fails.allowed.threads f.handle f.place f.bound

-- A search of this effort over the program's problem ended without a verdict: the core reached a state in which none stands and each
-- worker is spent; its entries are a good log, and its numbers are the reports.
pub record IsUndecided (p : Checked) (m : MemoryModel) (e : Effort) (reports : List Report) : Type 0 where
  pub encoded : Encoded
  pub encoding : IsEncoding p encoded
  pub same_model : encoded.model ≡ m
  pub chain : IsChainOf p m encoded
  pub log : List Entry
  pub good : IsGood encoded.problem log
  pub unknown : IsUnknown encoded.problem e.workers e.budget log reports

-- the text is, with hints, that of a good log of the program's problem which ends in the empty clause
pub record IsKeptProof (p : Checked) (m : MemoryModel) (text : List ℕ) : Type 0 where
  pub encoded : Encoded
  pub chain : IsChainOf p m encoded
  pub log : List Entry
  pub kept : IsHintedText p encoded log text
  pub empty : EndsEmpty log

-- there is a text exactly where one is wanted, and it is such a one
abbrev pub IsWhereWanted : Bool → (List ℕ → Type 0) → Option (List ℕ) → Type 0
IsWhereWanted wanted P None = wanted ≡ false
IsWhereWanted wanted P (Some text) = (wanted ≡ true) × P text

-- what each verdict says of a program under a model, and of the text of its log, where that is wanted
abbrev pub IsVerdictOf : Checked → MemoryModel → Effort → Bool → ProgramVerdict → Type 0
IsVerdictOf p m e wanted (Safe log) = ((c : Candidate) → ¬ ProgramFails p m c) × IsWhereWanted wanted (IsKeptProof p m) log
IsVerdictOf p m e wanted (Unsafe f) = IsFailure p m f
IsVerdictOf p m e wanted (Unknown reports log) = (u : IsUndecided p m e reports) × IsWhereWanted wanted (IsHintedText p u.encoded u.log) log
