-- How a run goes on for which the script was too short.
use Rattle.std.specs.Prelude.{◌≡◌, ℕ, zero, suc, List, [], ◌∷◌, ◌++◌, Bool, true, false, Some, nat_lt}
use Rattle.axiom_model.specs.declared.Action.{Action}
use Rattle.axiom_model.specs.declared.Action.TheVariants.{Read, Open, Join}
use Rattle.c_check.specs.declared.checked.Checked.{Checked}
use Rattle.run_model.specs.declared.state.Ending.{Ending}
use Rattle.run_model.specs.declared.state.Ending.TheVariants.{Stopped, Bad}
use Rattle.run_model.specs.declared.state.Halt.TheVariants.{Over}
use Rattle.run_model.specs.declared.state.Need.{Need}
use Rattle.run_model.specs.declared.state.Need.TheVariants.{ReadOf, Go, Truth, Any}
use Rattle.run_model.specs.Steps.{Outcome, Goes, Halts}
use Rattle.run_model.specs.Threads.{ShortRun, thread_outcome, short_run}

-- the actions with others behind them
abbrev pub IsBehind : List Action → List Action → Type 0
IsBehind acts more = (rest : List Action) × (more ≡ acts ++ rest)

-- what a run waits with behind a go number
abbrev pub IsWaited : Action → Type 0
IsWaited Open = Unit {0}
IsWaited (Join h) = Unit {0}
IsWaited _ = ⊥

abbrev pub actions_in : {A : Type 0} → Outcome A → List Action
actions_in (Goes a t) = t.actions
actions_in (Halts h t) = t.actions

-- the run ends in this way without a further action
abbrev pub EndsAs : {A : Type 0} → Ending → List Action → Outcome A → Type 0
EndsAs e acts (Goes a t) = ⊥
EndsAs e acts (Halts h t) = (h ≡ Over e) × (t.actions ≡ acts)

-- a go number of 0 ends the run, 1 lets it open its section or join, any other makes it Bad
abbrev pub Obeys : {A : Type 0} → ℕ → List Action → Outcome A → Type 0
Obeys zero acts o = EndsAs Stopped acts o
Obeys (suc zero) acts o = (a : Action) × (rest : List Action) × IsWaited a × (actions_in o ≡ acts ++ a ∷ rest)
Obeys (suc (suc n)) acts o = EndsAs Bad acts o

-- a bool that is one lets the run go on, any other makes it Bad
abbrev pub Chooses : {A : Type 0} → Bool → List Action → Outcome A → Type 0
Chooses true acts o = IsBehind acts (actions_in o)
Chooses false acts o = EndsAs Bad acts o

-- what a run does that had made these actions when it needed a number: by what it was for, and the number. A read is made with the value.
abbrev pub Follows : {A : Type 0} → Need → ℕ → List Action → Outcome A → Type 0
Follows (ReadOf c) v acts o = IsBehind (acts ++ Read c v ∷ []) (actions_in o)
Follows Go v acts o = Obeys v acts o
Follows Truth v acts o = Chooses (nat_lt v 2) acts o
Follows Any v acts o = IsBehind acts (actions_in o)

-- Where a script is too short, the run on it with a number and others behind it does first what it did on the script, and then
-- what the number says.
abbrev pub ShortRunsGoOn : Type 0
ShortRunsGoOn =
    (p : Checked) (f handle arg : ℕ) (script : List ℕ) (s : ShortRun) → short_run p f handle arg script ≡ Some s
    → (v : ℕ) (others : List ℕ) (o : Outcome ⊥) → thread_outcome p f handle arg (script ++ v ∷ others) ≡ Some o → Follows s.needs v s.actions o
