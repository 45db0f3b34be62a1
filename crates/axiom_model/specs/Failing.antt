-- Candidates that fail, over any meaning of a thread's run.
use Rattle.std.specs.Prelude.{◌≡◌, ℕ, ◌<◌, ◌^◌, List, [], ◌∷◌, Bool, true, false, cond, Option, Some, None, length, slice_get, All}
use Rattle.std.specs.List.{AllZip}
use Rattle.dg_base.specs.declared.Place.{Place}
use Rattle.axiom_model.specs.declared.Action.{Action}
use Rattle.axiom_model.specs.declared.MemoryModel.{MemoryModel}
use Rattle.axiom_model.specs.declared.ThreadPart.{ThreadPart}
use Rattle.axiom_model.specs.declared.Candidate.{Candidate}
use Rattle.axiom_model.specs.Execution.{Thread, Execution}
use Rattle.axiom_model.specs.WellMade.{Shape, WellMade}
use Rattle.axiom_model.specs.Models.{Consistent}

-- a thread's run: its actions, whether it came to its end, whether it made a choice that no execution makes, where it failed, whether what failed is a loop that used up its bound, and how many numbers of the script it used
pub record Run : Type 0 where
  pub actions : List Action
  pub ended : Bool
  pub bad : Bool
  pub failed : Option Place
  pub bound : Bool
  pub used : ℕ

-- the run of a function, with a handle and an argument, on a script; none where the script is too short
abbrev pub Runs : Type 0
Runs = ℕ → ℕ → ℕ → List ℕ → Option Run

-- the run of a candidate's thread, which uses the whole script
abbrev pub RunsTo : Runs → ThreadPart → Run → Type 0
RunsTo runs p r = (runs p.function p.handle p.arg p.script ≡ Some r) × (r.used ≡ length p.script)

-- what the model sees of a thread and its run
abbrev pub thread_of : ThreadPart → Run → Thread
thread_of p r = record { handle = p.handle; function = p.function; arg = p.arg; actions = r.actions; ended = r.ended; bad = r.bad }

-- the same for each thread
abbrev pub threads_of : List ThreadPart → List Run → List Thread
threads_of (p ∷ ps) (r ∷ rs) = thread_of p r ∷ threads_of ps rs
threads_of _ _ = []

-- what the model sees of a candidate, given its threads' runs
abbrev pub execution_of : Candidate → List Run → Execution
execution_of c rs = record { threads = threads_of c.threads rs; rf = c.rf; co = c.co }

-- some run fails
abbrev pub SomeFails : List Run → Type 0
SomeFails rs = (k : ℕ) × (r : Run) × (at : Place) × (slice_get rs k ≡ Some r) × (r.failed ≡ Some at)

-- every number of every script is a word: a choice, as a value that is read, has 32 bits
abbrev pub HasWords : Candidate → Type 0
HasWords c = All (λ (p : ThreadPart). All (λ v. v < 2 ^ 32) p.script) c.threads

-- an execution that the model allows: a candidate of words, each of whose threads runs to the end of its script, that is well made and consistent
pub record AllowedExecution (s : Shape) (runs : Runs) (m : MemoryModel) (c : Candidate) : Type 0 where
  pub threads : List Run
  pub words : HasWords c
  pub whole : AllZip (RunsTo runs) c.threads threads
  pub well_made : WellMade s (execution_of c threads)
  pub consistent : Consistent m (execution_of c threads)

-- an allowed execution in which some thread fails
pub record FailingExecution (s : Shape) (runs : Runs) (m : MemoryModel) (c : Candidate) : Type 0 where
  pub allowed : AllowedExecution s runs m c
  pub fails : SomeFails allowed.threads

-- where a run fails an assertion, or with the flag where it spends a bound
abbrev pub failed_by : Bool → Run → Option Place
failed_by true r = cond r.bound r.failed None
failed_by false r = cond r.bound None r.failed

-- The thread that fails an assertion with the least handle, and the place; or where none does, with the flag, the one with
-- the least handle that spends a bound: no thread before it fails in this way, and handles rise.
pub record FailsFirst (c : Candidate) (rs : List Run) (handle : ℕ) (at : Place) (bound : Bool) : Type 0 where
  pub number : ℕ
  pub part : ThreadPart
  pub run : Run
  pub is_part : slice_get c.threads number ≡ Some part
  pub is_run : slice_get rs number ≡ Some run
  pub handle_is : part.handle ≡ handle
  pub fails : failed_by bound run ≡ Some at
  pub not_before : (k : ℕ) (r : Run) → k < number → slice_get rs k ≡ Some r → failed_by bound r ≡ None
  pub no_assertion : bound ≡ true → (k : ℕ) (r : Run) → slice_get rs k ≡ Some r → failed_by false r ≡ None
