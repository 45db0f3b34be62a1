-- Runs that their threads can end alone.
use Rattle.std.specs.Prelude.{◌≡◌, ℕ, ◌<◌, ◌^◌, List, [], ◌++◌, false, Some, length, take, All}
use Rattle.axiom_model.specs.declared.Action.{Action}
use Rattle.axiom_model.specs.Failing.{Run}
use Rattle.c_check.specs.declared.checked.Checked.{Checked}
use Rattle.c_check.specs.WellFormed.{IsChecked}
use Rattle.run_model.specs.Programs.{shape_of}
use Rattle.run_model.specs.Threads.{thread_run}
use Rattle.run_laws.specs.Started.{IsStarted}
use Rattle.run_laws.specs.Words.{IsWord, HasWordConstants}
use Rattle.full_bound.specs.Lone.{Memory, IsLone, is_opened}

-- on some script of words the thread makes these actions and then others alone, and is not Bad
pub record EndsAlone (p : Checked) (f handle arg : ℕ) (acts : List Action) (mem : Memory) : Type 0 where
  pub script : List ℕ
  pub words : All IsWord script
  pub run : Run
  pub runs : thread_run p f handle arg script ≡ Some run
  pub all_used : run.used ≡ length script
  pub not_bad : run.bad ≡ false
  pub made : List Action
  pub actions : run.actions ≡ acts ++ made
  pub lone : IsLone mem made

-- whatever words the cells hold
abbrev pub CanEnd : Checked → ℕ → ℕ → ℕ → List Action → Type 0
CanEnd p f handle arg acts = (mem : Memory) → ((c : ℕ) → IsWord (mem c)) → EndsAlone p f handle arg acts mem

-- a thread of a started function behind d creations, with a word as argument
pub record IsThread (p : Checked) (d f handle arg : ℕ) : Type 0 where
  pub known : f < (shape_of p.program).functions
  pub started : IsStarted p d f
  pub low : handle < 64 ^ d
  pub word : IsWord arg

-- each thread can run alone from its start
abbrev pub ThreadsCanEnd : Type 0
ThreadsCanEnd = (p : Checked) (d f handle arg : ℕ) → IsChecked p → HasWordConstants p → IsThread p d f handle arg → CanEnd p f handle arg []

-- and from before each action of a run, where no section is open there
abbrev pub CutRunsCanEnd : Type 0
CutRunsCanEnd =
    (p : Checked) (d f handle arg : ℕ) (script : List ℕ) (r : Run) → IsChecked p → HasWordConstants p → IsThread p d f handle arg → All IsWord script → thread_run p f handle arg script ≡ Some r
    → (n : ℕ) → n < length r.actions → is_opened false (take n r.actions) ≡ false → CanEnd p f handle arg (take n r.actions)
