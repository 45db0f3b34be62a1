-- The run for a bound on loops beside the run for a higher one.
use Rattle.std.specs.Prelude.{◌≡◌, ℕ, ◌≤◌, List, Bool, true, false, Some, ◌⊎◌}
use Rattle.c_check.specs.declared.checked.Checked.{Checked}
use Rattle.run_model.specs.declared.state.Ending.{Ending}
use Rattle.run_model.specs.declared.state.Ending.TheVariants.{Stopped, Bound, Bad}
use Rattle.run_model.specs.declared.state.Halt.TheVariants.{Over, Short}
use Rattle.run_model.specs.Steps.{Outcome, Goes, Halts}
use Rattle.run_model.specs.Threads.{thread_outcome}
use Rattle.run_laws.specs.Short.{IsBehind, actions_in}

-- an ending where a bound is spent: one that tells it; or where that is not told, one that goes no further
abbrev pub IsSpent : Bool → Ending → Type 0
IsSpent true (Bound p) = Unit {0}
IsSpent true _ = ⊥
IsSpent false Stopped = Unit {0}
IsSpent false Bad = Unit {0}
IsSpent false _ = ⊥

-- how many numbers were used
abbrev pub used_in : {A : Type 0} → Outcome A → ℕ
used_in (Goes a t) = t.used
used_in (Halts h t) = t.used

-- the first spent its bound: its actions are the first ones of the second, which used at least as many numbers
abbrev pub SpentBefore : {A : Type 0} → Bool → Outcome A → Outcome A → Type 0
SpentBefore full (Goes a t) more = ⊥
SpentBefore full (Halts (Over e) t) more = IsSpent full e × IsBehind t.actions (actions_in more) × (t.used ≤ used_in more)
SpentBefore full (Halts (Short n) t) more = ⊥

-- they are the same, or the first spent its bound
abbrev pub Beside : {A : Type 0} → Bool → Outcome A → Outcome A → Type 0
Beside full o more = (o ≡ more) ⊎ SpentBefore full o more

-- so it is for two bounds of one program; the flag says whether spent bounds are told for the lower one
abbrev pub HigherBoundsGoOn : Type 0
HigherBoundsGoOn =
    (p q : Checked) → q.program ≡ p.program → p.k ≤ q.k
    → (f handle arg : ℕ) (script : List ℕ) (o more : Outcome ⊥) → thread_outcome p f handle arg script ≡ Some o → thread_outcome q f handle arg script ≡ Some more → Beside p.full o more
