-- What an instance does on a script.
use Rattle.std.specs.Prelude.{ℕ, ◌+◌, List, [], ◌∷◌, ◌++◌, Bool, true, false, cond, not, Option, Some, None, map, slice_get, nat_eq}
use Rattle.dg_base.specs.declared.Place.{Place}
use Rattle.dg_base.specs.Values.{value_of, is_true}
use Rattle.axiom_model.specs.declared.Action.{Action}
use Rattle.axiom_model.specs.declared.Action.TheVariants as action
use Rattle.axiom_model.specs.Failing.{Run}
use Rattle.flat_prog.specs.declared.Instance.{Instance}
use Rattle.flat_prog.specs.declared.FlatStep.{FlatStep}
use Rattle.flat_prog.specs.declared.FlatAct.{FlatAct}
use Rattle.flat_prog.specs.declared.FlatAct.TheVariants.{Set, Put, Take, Read, Write, Open, Close, Fence, Create, Join, End, Stop, Bad, Fail}

-- how a flat run ends; a failure has its place and its tag
pub data FlatEnding : Type 0 where
  Ended Stopped Broken : FlatEnding
  Failed : Place → ℕ → FlatEnding

-- the value of each local; the rest of the script and how much was used; the actions so far
pub record FlatState : Type 0 where
  pub values : ℕ → ℕ
  pub script : List ℕ
  pub used : ℕ
  pub actions : List Action

-- a run goes on in this state, is over, or needs a number that the script does not have
pub data Progress : Type 0 where
  Goes : FlatState → Progress
  Over : FlatEnding → FlatState → Progress
  Short : FlatState → Progress

-- the values with one local changed
abbrev pub with_local : (ℕ → ℕ) → ℕ → ℕ → ℕ → ℕ
with_local values to v l = cond (nat_eq l to) v (values l)

abbrev pub set_local : ℕ → ℕ → FlatState → FlatState
set_local to v s = record s { values = with_local s.values to v }

abbrev pub make : Action → FlatState → FlatState
make a s = record s { actions = s.actions ++ a ∷ [] }

-- the script's next number goes into a local, and may make an action
abbrev pub take_into : ℕ → (ℕ → List Action) → List ℕ → FlatState → Progress
take_into to made [] s = Short s
take_into to made (v ∷ vs) s = Goes (record { values = with_local s.values to v; script = vs; used = s.used + 1; actions = s.actions ++ made v })

abbrev pub function_in : Option Instance → ℕ
function_in None = 0
function_in (Some i) = i.function

-- the function of an instance, by its number
abbrev pub function_at : List Instance → ℕ → ℕ
function_at instances i = function_in (slice_get instances i)

-- what a step does where it is made
abbrev pub act : List Instance → FlatAct → FlatState → Progress
act is (Set to op args) s = Goes (set_local to (value_of op (map s.values args)) s)
act is (Put to v) s = Goes (set_local to v s)
act is (Take to) s = take_into to (λ v. []) s.script s
act is (Read c to) s = take_into to (λ v. action.Read c v ∷ []) s.script s
act is (Write c from) s = Goes (make (action.Write c (s.values from)) s)
act is Open s = Goes (make action.Open s)
act is Close s = Goes (make action.Close s)
act is Fence s = Goes (make action.Fence s)
act is (Create i handle arg) s = Goes (make (action.Create (s.values handle) (function_at is i) (s.values arg)) s)
act is (Join from) s = Goes (make (action.Join (s.values from)) s)
act is End s = Over Ended (make action.End s)
act is Stop s = Over Stopped s
act is Bad s = Over Broken s
act is (Fail p tag) s = Over (Failed p tag) s

-- a step is made where its guard is not 0
abbrev pub step : List Instance → FlatStep → FlatState → Progress
step is t s = cond (is_true (s.values t.guard)) (act is t.act s) (Goes s)

abbrev pub go_on : Progress → (FlatState → Progress) → Progress
go_on (Goes s) f = f s
go_on (Over e s) f = Over e s
go_on (Short s) f = Short s

-- the steps in turn; behind an ending none is made
abbrev pub steps : List Instance → List FlatStep → FlatState → Progress
steps is [] s = Goes s
steps is (t ∷ ts) s = go_on (step is t s) (steps is ts)

-- local 0 begins as the argument, local 1 as the handle, local 2 as 1, every other one as 0
abbrev pub first_values : ℕ → ℕ → ℕ → ℕ
first_values arg handle l = cond (nat_eq l 0) arg (cond (nat_eq l 1) handle (cond (nat_eq l 2) 1 0))

abbrev pub begins : ℕ → ℕ → List ℕ → FlatState
begins arg handle script = record { values = first_values arg handle; script = script; used = 0; actions = action.Start ∷ [] }

-- a run that is over: its actions, how it ended, and how many numbers it used
pub record FlatRun : Type 0 where
  pub actions : List Action
  pub ending : FlatEnding
  pub used : ℕ

abbrev pub flat_run_with : FlatEnding → FlatState → FlatRun
flat_run_with e s = record { actions = s.actions; ending = e; used = s.used }

-- behind the last step the thread comes to its end
abbrev pub run_in : Progress → Option FlatRun
run_in (Goes s) = Some (flat_run_with Ended (make action.End s))
run_in (Over e s) = Some (flat_run_with e s)
run_in (Short s) = None

-- the run of an instance, with an argument and a handle, on a script; none where the script is too short
abbrev pub flat_run : List Instance → Instance → ℕ → ℕ → List ℕ → Option FlatRun
flat_run is i arg handle script = run_in (steps is i.steps (begins arg handle script))

-- ---- what the models see of it

abbrev pub has_ended : FlatEnding → Bool
has_ended Ended = true
has_ended _ = false

abbrev pub is_broken : FlatEnding → Bool
is_broken Broken = true
is_broken _ = false

-- the place of a failure, whatever its tag
abbrev pub failed_at : FlatEnding → Option Place
failed_at (Failed p tag) = Some p
failed_at _ = None

-- any tag but 0 stands for a loop's bound that is spent
abbrev pub is_bound : FlatEnding → Bool
is_bound (Failed p tag) = not (nat_eq tag 0)
is_bound _ = false

abbrev pub run_seen : FlatRun → Run
run_seen r = record { actions = r.actions; ended = has_ended r.ending; bad = is_broken r.ending; failed = failed_at r.ending; bound = is_bound r.ending; used = r.used }

-- ---- which steps are made

abbrev pub made_behind : Progress → (FlatState → List Bool) → List FlatStep → List Bool
made_behind (Goes s) f ts = f s
made_behind (Over e s) f ts = map (λ t. false) ts
made_behind (Short s) f ts = map (λ t. false) ts

-- for each step whether it is made
abbrev pub made_from : List Instance → List FlatStep → FlatState → List Bool
made_from is [] s = []
made_from is (t ∷ ts) s = is_true (s.values t.guard) ∷ made_behind (step is t s) (made_from is ts) ts

abbrev pub made_in : List Instance → Instance → ℕ → ℕ → List ℕ → List Bool
made_in is i arg handle script = made_from is i.steps (begins arg handle script)
