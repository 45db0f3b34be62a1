-- What actions name is of the program.
use Rattle.std.specs.Prelude.{◌≡◌, ℕ, ◌<◌, ◌≤◌, List, Some, All, length}
use Rattle.axiom_model.specs.declared.Action.{Action}
use Rattle.axiom_model.specs.declared.Action.TheVariants.{Read, Write, Create}
use Rattle.axiom_model.specs.WellMade.{Shape}
use Rattle.axiom_model.specs.Failing.{Run}
use Rattle.c_check.specs.declared.checked.Checked.{Checked}
use Rattle.c_check.specs.WellFormed.{IsChecked}
use Rattle.run_model.specs.Programs.{shape_of}
use Rattle.run_model.specs.Threads.{ShortRun, thread_run, short_run}

-- the cell is one of the program's, and so is the function of a new thread
abbrev pub BelongsTo : Shape → Action → Type 0
BelongsTo s (Read c v) = c < length s.initials
BelongsTo s (Write c v) = c < length s.initials
BelongsTo s (Create h f v) = f < s.functions
BelongsTo s _ = Unit {0}

-- so it is in each run
abbrev pub RunsBelong : Type 0
RunsBelong = (p : Checked) (f handle arg : ℕ) (script : List ℕ) (r : Run) → thread_run p f handle arg script ≡ Some r → All (BelongsTo (shape_of p.program)) r.actions

abbrev pub ShortRunsBelong : Type 0
ShortRunsBelong = (p : Checked) (f handle arg : ℕ) (script : List ℕ) (s : ShortRun) → short_run p f handle arg script ≡ Some s → All (BelongsTo (shape_of p.program)) s.actions

-- a checked program has few cells
abbrev pub CellsAreFew : Type 0
CellsAreFew = (p : Checked) → IsChecked p → length (shape_of p.program).initials ≤ 1024
