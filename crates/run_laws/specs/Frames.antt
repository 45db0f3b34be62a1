-- Where Start and End stand in a run.
use Rattle.std.specs.Prelude.{◌≡◌, ℕ, List, [], ◌∷◌, ◌++◌, Bool, true, false, Some}
use Rattle.std.specs.List.{AllByRecursion}
use Rattle.axiom_model.specs.declared.Action.{Action}
use Rattle.axiom_model.specs.declared.Action.TheVariants.{Start, End}
use Rattle.axiom_model.specs.Failing.{Run}
use Rattle.c_check.specs.declared.checked.Checked.{Checked}
use Rattle.run_model.specs.Threads.{ShortRun, thread_run, short_run}

-- the action is neither Start nor End
abbrev pub IsInner : Action → Type 0
IsInner Start = ⊥
IsInner End = ⊥
IsInner _ = Unit {0}

-- End, where the thread came to its end
abbrev pub last_of : Bool → List Action
last_of true = End ∷ []
last_of false = []

-- Start is first, End is last where the thread came to its end, and neither stands anywhere else
pub record IsFramed (acts : List Action) (ended : Bool) : Type 0 where
  pub inner : List Action
  pub whole : acts ≡ Start ∷ (inner ++ last_of ended)
  pub others : AllByRecursion IsInner inner

-- so it is in each run; one for which the script is too short has not come to its end
abbrev pub RunsAreFramed : Type 0
RunsAreFramed = (p : Checked) (f handle arg : ℕ) (script : List ℕ) (r : Run) → thread_run p f handle arg script ≡ Some r → IsFramed r.actions r.ended

abbrev pub ShortRunsAreFramed : Type 0
ShortRunsAreFramed = (p : Checked) (f handle arg : ℕ) (script : List ℕ) (s : ShortRun) → short_run p f handle arg script ≡ Some s → IsFramed s.actions false
