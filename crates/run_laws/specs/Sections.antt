-- Sections in runs.
use Rattle.std.specs.Prelude.{◌≡◌, ℕ, List, [], ◌∷◌, Bool, true, false, Some}
use Rattle.axiom_model.specs.declared.Action.{Action}
use Rattle.axiom_model.specs.declared.Action.TheVariants.{Open, Close}
use Rattle.axiom_model.specs.Failing.{Run}
use Rattle.c_check.specs.declared.checked.Checked.{Checked}
use Rattle.c_check.specs.WellFormed.{IsChecked}
use Rattle.run_model.specs.Threads.{ShortRun, thread_run, short_run}

-- Open and Close stand in turn; whether a section is open before the actions, and whether one is open behind them
abbrev pub AreInTurn : Bool → List Action → Bool → Type 0
AreInTurn before [] behind = before ≡ behind
AreInTurn before (Open ∷ acts) behind = (before ≡ false) × AreInTurn true acts behind
AreInTurn before (Close ∷ acts) behind = (before ≡ true) × AreInTurn false acts behind
AreInTurn before (a ∷ acts) behind = AreInTurn before acts behind

-- so they do where none is open before them; and none is open behind a thread that came to its end
pub record HasSections (acts : List Action) (ended : Bool) : Type 0 where
  pub opened : Bool
  pub in_turn : AreInTurn false acts opened
  pub closed : ended ≡ true → opened ≡ false

-- so it is in each run of a checked program; one for which the script is too short has not come to its end
abbrev pub RunsHaveSections : Type 0
RunsHaveSections = (p : Checked) (f handle arg : ℕ) (script : List ℕ) (r : Run) → IsChecked p → thread_run p f handle arg script ≡ Some r → HasSections r.actions r.ended

abbrev pub ShortRunsHaveSections : Type 0
ShortRunsHaveSections = (p : Checked) (f handle arg : ℕ) (script : List ℕ) (s : ShortRun) → IsChecked p → short_run p f handle arg script ≡ Some s → HasSections s.actions false
