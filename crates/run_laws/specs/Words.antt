-- The numbers of runs have 32 bits.
use Rattle.std.specs.Prelude.{◌≡◌, ℕ, ◌+◌, ◌*◌, ◌<◌, ◌^◌, List, Some, All}
use Rattle.std.specs.List.{AllZip}
use Rattle.axiom_model.specs.declared.Action.{Action}
use Rattle.axiom_model.specs.declared.Action.TheVariants.{Read, Write, Create, Join}
use Rattle.axiom_model.specs.declared.ThreadPart.{ThreadPart}
use Rattle.axiom_model.specs.declared.Candidate.{Candidate}
use Rattle.axiom_model.specs.WellMade.{WellMade}
use Rattle.axiom_model.specs.Failing.{Run, RunsTo, HasWords, execution_of}
use Rattle.c_rules.specs.Names.{functions_of}
use Rattle.c_check.specs.declared.checked.Checked.{Checked}
use Rattle.c_check.specs.WellFormed.{IsChecked}
use Rattle.run_model.specs.Programs.{shape_of}
use Rattle.run_model.specs.Threads.{ShortRun, thread_run, short_run}
use Rattle.run_model.specs.Laws.{creates_in}
use Rattle.run_laws.specs.Leaves.{Leaf, Value, Called, in_functions}
use Rattle.run_laws.specs.Started.{IsStarted}

abbrev pub IsWord : ℕ → Type 0
IsWord n = n < 2 ^ 32

-- a constant is a word
abbrev pub IsWordIn : Leaf → Type 0
IsWordIn (Value n) = IsWord n
IsWordIn (Called name) = Unit {0}

-- the constants of the functions are words, as those that are read from a text are
abbrev pub HasWordConstants : Checked → Type 0
HasWordConstants p = All IsWordIn (in_functions (functions_of p.program.items))

-- the values, arguments and handles of an action are words
abbrev pub IsOfWords : Action → Type 0
IsOfWords (Read c v) = IsWord v
IsOfWords (Write c v) = IsWord v
IsOfWords (Create h f v) = IsWord h × IsWord v
IsOfWords (Join h) = IsWord h
IsOfWords _ = Unit {0}

-- So they are in a run whose argument and script are words, where the handles that it gives are: these are the numbers behind
-- 64 times its own handle.
abbrev pub RunsAreOfWords : Type 0
RunsAreOfWords =
    (p : Checked) (f handle arg : ℕ) (script : List ℕ) (r : Run) → HasWordConstants p → IsWord arg → All IsWord script → thread_run p f handle arg script ≡ Some r
    → IsWord (64 * handle + creates_in r.actions) → All IsOfWords r.actions

abbrev pub ShortRunsAreOfWords : Type 0
ShortRunsAreOfWords =
    (p : Checked) (f handle arg : ℕ) (script : List ℕ) (s : ShortRun) → HasWordConstants p → IsWord arg → All IsWord script → short_run p f handle arg script ≡ Some s
    → IsWord (64 * handle + creates_in s.actions) → All IsOfWords s.actions

-- so they are in each run of a started function of a checked program, behind d creations
abbrev pub StartedRunsAreOfWords : Type 0
StartedRunsAreOfWords =
    (p : Checked) (d f handle arg : ℕ) (script : List ℕ) (r : Run) → IsChecked p → HasWordConstants p → IsStarted p d f → handle < 64 ^ d → IsWord arg → All IsWord script
    → thread_run p f handle arg script ≡ Some r → All IsOfWords r.actions

abbrev pub StartedShortRunsAreOfWords : Type 0
StartedShortRunsAreOfWords =
    (p : Checked) (d f handle arg : ℕ) (script : List ℕ) (s : ShortRun) → IsChecked p → HasWordConstants p → IsStarted p d f → handle < 64 ^ d → IsWord arg → All IsWord script
    → short_run p f handle arg script ≡ Some s → All IsOfWords s.actions

-- the threads have words as arguments, and their runs are of words
pub record IsCandidateOfWords (c : Candidate) (rs : List Run) : Type 0 where
  pub arguments : All (λ (t : ThreadPart). IsWord t.arg) c.threads
  pub actions : All (λ (r : Run). All IsOfWords r.actions) rs

-- so it is for each well made candidate of a checked program, where the scripts are of words
abbrev pub CandidatesAreOfWords : Type 0
CandidatesAreOfWords =
    (p : Checked) (c : Candidate) (rs : List Run) → IsChecked p → HasWordConstants p → HasWords c → AllZip (RunsTo (thread_run p)) c.threads rs
    → WellMade (shape_of p.program) (execution_of c rs) → IsCandidateOfWords c rs
