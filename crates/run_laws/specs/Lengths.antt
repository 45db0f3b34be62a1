-- How many actions runs have.
use Rattle.std.specs.Prelude.{◌≡◌, ℕ, ◌+◌, ◌*◌, ◌≤◌, List, Some, All, length}
use Rattle.std.specs.List.{AllZip}
use Rattle.axiom_model.specs.declared.Action.{Action}
use Rattle.axiom_model.specs.declared.Candidate.{Candidate}
use Rattle.axiom_model.specs.WellMade.{WellMade}
use Rattle.axiom_model.specs.Failing.{Run, RunsTo, execution_of}
use Rattle.c_check.specs.declared.checked.Checked.{Checked}
use Rattle.c_check.specs.WellFormed.{IsChecked}
use Rattle.run_model.specs.Programs.{shape_of}
use Rattle.run_model.specs.Threads.{ShortRun, thread_run, short_run}
use Rattle.run_laws.specs.Started.{IsStarted}

-- Start, End, and at most four actions for each of the 1024 accesses and each unit of the weight of 32768 that a checked program has
-- at most: 135170, which is far below 2 ^ 32
abbrev pub most_actions : ℕ
most_actions = 2 + 4 * (1024 + 32768)

abbrev pub IsShort : List Action → Type 0
IsShort acts = length acts ≤ most_actions

-- each run of a started function of a checked program has no more
abbrev pub RunsAreShort : Type 0
RunsAreShort =
    (p : Checked) (d f handle arg : ℕ) (script : List ℕ) (r : Run) → IsChecked p → IsStarted p d f → thread_run p f handle arg script ≡ Some r → IsShort r.actions

abbrev pub ShortRunsAreShort : Type 0
ShortRunsAreShort =
    (p : Checked) (d f handle arg : ℕ) (script : List ℕ) (s : ShortRun) → IsChecked p → IsStarted p d f → short_run p f handle arg script ≡ Some s → IsShort s.actions

-- nor has one of a well made candidate
abbrev pub CandidatesAreShort : Type 0
CandidatesAreShort =
    (p : Checked) (c : Candidate) (rs : List Run) → IsChecked p → AllZip (RunsTo (thread_run p)) c.threads rs → WellMade (shape_of p.program) (execution_of c rs)
    → All (λ (r : Run). IsShort r.actions) rs
