-- How many numbers of a script the runs of a program use.
use Rattle.std.specs.Prelude.{◌≡◌, ℕ, ◌≤◌, List, Some}
use Rattle.axiom_model.specs.Failing.{Run}
use Rattle.c_check.specs.declared.checked.Checked.{Checked}
use Rattle.run_model.specs.Threads.{ShortRun, thread_run, short_run}

-- at most so many, for every function, handle, argument and script, also where the script is too short
pub record UsesAtMost (p : Checked) (n : ℕ) : Type 0 where
  pub whole : (f handle arg : ℕ) (script : List ℕ) (r : Run) → thread_run p f handle arg script ≡ Some r → r.used ≤ n
  pub short : (f handle arg : ℕ) (script : List ℕ) (s : ShortRun) → short_run p f handle arg script ≡ Some s → s.used ≤ n

-- each program has a bound
abbrev pub ScriptsAreBounded : Type 0
ScriptsAreBounded = (p : Checked) → (n : ℕ) × UsesAtMost p n
