-- Functions that threads run, told without an execution: main's, and those of which a started thread creates a thread.
use Rattle.std.specs.Prelude.{◌≡◌, ℕ, zero, suc, ◌<◌, ◌≤◌, ◌^◌, List, Some, slice_get, Contains}
use Rattle.axiom_model.specs.declared.Action.TheVariants.{Create}
use Rattle.axiom_model.specs.Failing.{Run}
use Rattle.c_check.specs.declared.checked.Checked.{Checked}
use Rattle.c_check.specs.WellFormed.{IsChecked}
use Rattle.run_model.specs.Programs.{shape_of}
use Rattle.run_model.specs.Threads.{thread_run}
use Rattle.run_model.specs.Laws.{creates_in}

-- main is started; and a function of which a run of a started one creates a thread, one creation deeper
pub data IsStarted (p : Checked) : ℕ → ℕ → Type 0 where
  main : IsStarted p zero (shape_of p.program).main
  created : (d f g handle arg h v : ℕ) (script : List ℕ) (r : Run) → IsStarted p d f → thread_run p f handle arg script ≡ Some r
      → Contains r.actions (Create h g v) → IsStarted p (suc d) g

-- each run of a started function creates at most 63 threads
abbrev pub StartedCreateFew : Type 0
StartedCreateFew =
    (p : Checked) (d f handle arg : ℕ) (script : List ℕ) (r : Run) → IsChecked p → IsStarted p d f → thread_run p f handle arg script ≡ Some r → creates_in r.actions ≤ 63

-- at most four creations lie between main and a started function
abbrev pub StartedIsShallow : Type 0
StartedIsShallow = (p : Checked) (d f : ℕ) → IsChecked p → IsStarted p d f → d ≤ 4

-- a thread behind d creations has a handle below 64 to the d; so has each that it creates, behind one creation more, and it is below 2^24
abbrev pub StartedHandlesAreLow : Type 0
StartedHandlesAreLow =
    (p : Checked) (d f handle arg : ℕ) (script : List ℕ) (r : Run) → IsChecked p → IsStarted p d f → handle < 64 ^ d → thread_run p f handle arg script ≡ Some r
    → (h g v : ℕ) → Contains r.actions (Create h g v) → (h < 64 ^ suc d) × (h < 2 ^ 24)

-- threads of different handles create threads of different handles, where both run started functions
abbrev pub StartedCreatesDiffer : Type 0
StartedCreatesDiffer =
    (p : Checked) (d e f g own other arg val : ℕ) (script more : List ℕ) (r q : Run) → IsChecked p → IsStarted p d f → IsStarted p e g
    → thread_run p f own arg script ≡ Some r → thread_run p g other val more ≡ Some q
    → (h a b v w : ℕ) → Contains r.actions (Create h a v) → Contains q.actions (Create h b w) → own ≡ other

-- and one run creates no two threads of one handle
abbrev pub CreatesDifferInARun : Type 0
CreatesDifferInARun =
    (p : Checked) (f handle arg : ℕ) (script : List ℕ) (r : Run) → thread_run p f handle arg script ≡ Some r
    → (i j h a b v w : ℕ) → slice_get r.actions i ≡ Some (Create h a v) → slice_get r.actions j ≡ Some (Create h b w) → i ≡ j
