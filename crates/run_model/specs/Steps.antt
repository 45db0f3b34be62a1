-- What a run can do next: steps on its state, one after the other.
use Rattle.std.specs.Prelude.{ℕ, zero, suc, ◌+◌, ◌-◌, List, [], ◌∷◌, ◌++◌, cond, nat_eq}
use Rattle.dg_base.specs.declared.Place.{Place}
use Rattle.axiom_model.specs.declared.Action.{Action}
use Rattle.axiom_model.specs.declared.Action.TheVariants.{Open, Close}
use Rattle.run_model.specs.declared.state.Ending.{Ending}
use Rattle.run_model.specs.declared.state.Ending.TheVariants.{Stopped, Failed, Bad}
use Rattle.run_model.specs.declared.state.Halt.{Halt}
use Rattle.run_model.specs.declared.state.Halt.TheVariants.{Over, Short}
use Rattle.run_model.specs.declared.state.Local.{Local}
use Rattle.run_model.specs.declared.state.Need.{Need}
use Rattle.run_model.specs.declared.state.Need.TheVariants.{Go}

-- the locals in scope, the innermost last; the creates done; the section depth; the rest of the script and how much was used; the actions so far
pub record State : Type 0 where
  pub locals : List Local
  pub created : ℕ
  pub depth : ℕ
  pub script : List ℕ
  pub used : ℕ
  pub actions : List Action

-- a run goes on with a value, or halts in this state: it is over, or needs a number that the script does not have
pub data Outcome (A : Type 0) : Type 0 where
  Goes : A → State → Outcome A
  Halts : Halt → State → Outcome A

abbrev pub Step : Type 0 → Type 0
Step A = State → Outcome A

abbrev pub go_on : {A B : Type 0} → Outcome A → (A → Step B) → Outcome B
go_on (Goes a s) f = f a s
go_on (Halts h s) f = Halts h s

infixl 10 ◌>>=◌
abbrev pub ◌>>=◌ : {A B : Type 0} → Step A → (A → Step B) → Step B
m >>= f = λ s. go_on (m s) f

infixl 10 ◌>>◌
abbrev pub ◌>>◌ : {A B : Type 0} → Step A → Step B → Step B
m >> n = m >>= (λ _. n)

abbrev pub pure : {A : Type 0} → A → Step A
pure a = λ s. Goes a s

abbrev pub nothing : Step (Unit {0})
nothing = pure tt

-- what is read off the state
abbrev pub look : {A : Type 0} → (State → A) → Step A
look f = λ s. Goes (f s) s

abbrev pub change : (State → State) → Step (Unit {0})
change f = λ s. Goes tt (f s)

abbrev pub ends : {A : Type 0} → Ending → Step A
ends e = λ s. Halts (Over e) s

-- an action is made
abbrev pub make : Action → Step (Unit {0})
make a = change (λ s. record s { actions = s.actions ++ a ∷ [] })

abbrev pub take_from : Need → List ℕ → Step ℕ
take_from need [] s = Halts (Short need) s
take_from need (v ∷ vs) s = Goes v (record s { script = vs; used = s.used + 1 })

-- the script's next number, and what it is for
abbrev pub take_number : Need → Step ℕ
take_number need = λ s. take_from need s.script s

-- a go number: 0 stops the run, 1 goes on, any other makes it Bad
abbrev pub obey : ℕ → Step (Unit {0})
obey zero = ends Stopped
obey (suc zero) = nothing
obey _ = ends Bad

abbrev pub ask : Step (Unit {0})
ask = take_number Go >>= obey

-- at depth 0 alone
abbrev pub outside : Step (Unit {0}) → Step (Unit {0})
outside m = λ s. cond (nat_eq s.depth 0) m nothing s

-- at depth 0 a go number, then Open
abbrev pub open_section : Step (Unit {0})
open_section = outside (ask >> make Open)

-- a section begins; the depth grows
abbrev pub begin_section : Step (Unit {0})
begin_section = open_section >> change (λ s. record s { depth = s.depth + 1 })

-- a section ends: the depth falls; at depth 0 Close
abbrev pub end_section : Step (Unit {0})
end_section = change (λ s. record s { depth = s.depth - 1 }) >> outside (make Close)

-- the run goes no further: outside a section it has stopped, inside it is Bad
abbrev pub stop : {A : Type 0} → Step A
stop = λ s. Halts (Over (cond (nat_eq s.depth 0) Stopped Bad)) s

-- an assertion, a division or an index fails at its place
abbrev pub fail : {A : Type 0} → Place → Step A
fail p = ends (Failed p)

-- the steps in turn, and their values behind those that are there already
abbrev pub in_turn : {A : Type 0} → List A → List (Step A) → Step (List A)
in_turn done [] = pure done
in_turn done (m ∷ ms) = m >>= (λ v. in_turn (done ++ v ∷ []) ms)
