-- What is told of a run is told of the outcome of its steps.
use Rattle.std.proofs.Common.{◌≡◌, ℕ, List, [], ◌∷◌, Option, Some, None, refl}
use Rattle.std.specs.Prelude.{slice_get}
use Rattle.std.proofs.lemmas.Option.{same_Some}
use Rattle.axiom_model.specs.declared.Action.TheVariants.{Start}
use Rattle.axiom_model.specs.Failing.{Run}
use Rattle.c_tree.specs.declared.program.Function.{Function}
use Rattle.c_check.specs.declared.checked.Checked.{Checked}
use Rattle.run_model.specs.declared.state.Ending.{Ending}
use Rattle.run_model.specs.declared.state.Halt.TheVariants.{Over, Short}
use Rattle.run_model.specs.declared.state.Need.{Need}
use Rattle.run_model.specs.Steps.{State, Outcome, Goes, Halts}
use Rattle.run_model.specs.Calls.{Setting}
use Rattle.run_model.specs.Programs.{setting_of}
use Rattle.run_model.specs.Threads.{ShortRun, thread_steps, thread_run, short_run, outcome_of, run_in, run_with, short_in, begins}
use Rattle.run_laws.proofs.Joint.{Two}

-- one setting twice
abbrev pub twice : Checked → ℕ → Two
twice p handle =
    let g : Setting = setting_of p handle in
    record { shared = g.shared; functions = g.functions; handle = handle; turns = p.k; full = p.full; other_turns = p.k; other_full = p.full }

-- the state behind the start
abbrev pub started : List ℕ → State
started script = record (begins script) { actions = Start ∷ [] }

-- a run that is over
pub record Ran (p : Checked) (f handle arg : ℕ) (script : List ℕ) (r : Run) : Type 0 where
  pub function : Function
  pub is : slice_get (setting_of p handle).functions f ≡ Some function
  pub ending : Ending
  pub state : State
  pub goes : thread_steps (setting_of p handle) function arg (begins script) ≡ Halts (Over ending) state
  pub run : run_with state.actions ending state.used ≡ r

-- a run for which the script is too short
pub record RanShort (p : Checked) (f handle arg : ℕ) (script : List ℕ) (r : ShortRun) : Type 0 where
  pub function : Function
  pub is : slice_get (setting_of p handle).functions f ≡ Some function
  pub need : Need
  pub state : State
  pub goes : thread_steps (setting_of p handle) function arg (begins script) ≡ Halts (Short need) state
  pub run : ◌≡◌ {A = ShortRun} (record { actions = state.actions; used = state.used; needs = need }) r

module _ (p : Checked) (f handle arg : ℕ) (script : List ℕ) where
  abbrev g : Setting
  g = setting_of p handle

  module _ (r : Run) where
    ran_of : (h : Function) → slice_get g.functions f ≡ Some h → (o : Outcome ⊥) → thread_steps g h arg (begins script) ≡ o → run_in (Some o) ≡ Some r → Ran p f handle arg script r
    ran_of h is (Goes a t) goes e = absurd a
    ran_of h is (Halts (Over ending) t) goes e = record { function = h; is = is; ending = ending; state = t; goes = goes; run = same_Some (run_with t.actions ending t.used) r e }
    ran_of h is (Halts (Short n) t) goes e = absurd (let no : ◌≡◌ {A = Option Run} None (Some r) = e in cc)

    ran_at : (o : Option Function) → slice_get g.functions f ≡ o → run_in (outcome_of g o arg script) ≡ Some r → Ran p f handle arg script r
    ran_at None is e = absurd (let no : ◌≡◌ {A = Option Run} None (Some r) = e in cc)
    ran_at (Some h) is e = ran_of h is (thread_steps g h arg (begins script)) refl e

    pub ran : thread_run p f handle arg script ≡ Some r → Ran p f handle arg script r
    ran e = ran_at (slice_get g.functions f) refl e

  module _ (r : ShortRun) where
    ran_short_of : (h : Function) → slice_get g.functions f ≡ Some h → (o : Outcome ⊥) → thread_steps g h arg (begins script) ≡ o → short_in (Some o) ≡ Some r → RanShort p f handle arg script r
    ran_short_of h is (Goes a t) goes e = absurd a
    ran_short_of h is (Halts (Over ending) t) goes e = absurd (let no : ◌≡◌ {A = Option ShortRun} None (Some r) = e in cc)
    ran_short_of h is (Halts (Short n) t) goes e =
        let told : ShortRun = record { actions = t.actions; used = t.used; needs = n } in
        record { function = h; is = is; need = n; state = t; goes = goes; run = same_Some told r e }

    ran_short_at : (o : Option Function) → slice_get g.functions f ≡ o → short_in (outcome_of g o arg script) ≡ Some r → RanShort p f handle arg script r
    ran_short_at None is e = absurd (let no : ◌≡◌ {A = Option ShortRun} None (Some r) = e in cc)
    ran_short_at (Some h) is e = ran_short_of h is (thread_steps g h arg (begins script)) refl e

    pub ran_short : short_run p f handle arg script ≡ Some r → RanShort p f handle arg script r
    ran_short e = ran_short_at (slice_get g.functions f) refl e
