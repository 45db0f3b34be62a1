-- Steps are emitted one after the other, each under a guard: a local that is 1 where control is there.
use Rattle.std.specs.Prelude.{◌≡◌, ℕ, ◌+◌, ◌-◌, List, [], ◌∷◌, ◌++◌, cond, nat_eq, Option, Some, None, Result, Ok, Err, length, take}
use Rattle.dg_base.specs.declared.Place.{Place}
use Rattle.dg_base.specs.declared.want.OutOfMemory.{OutOfMemory}
use Rattle.dg_base.specs.declared.operators.Op.{Op}
use Rattle.dg_base.specs.declared.operators.Op.TheVariants as op
use Rattle.flat_prog.specs.declared.FlatStep.{FlatStep}
use Rattle.flat_prog.specs.declared.FlatAct.{FlatAct}
use Rattle.flat_prog.specs.declared.FlatAct.TheVariants as act
use Rattle.emit_steps.specs.declared.state.Number.{Number}
use Rattle.emit_steps.specs.declared.state.Variable.{Variable}

-- what was emitted of an instance, and where the emission stands
pub record Emitted : Type 0 where
  -- the next local that is not used
  pub next : ℕ
  -- numbers, each with the local that holds it throughout
  pub numbers : List Number
  pub steps : List FlatStep
  -- the number of the instance that the next Create names, and the functions of those that were named, in order
  pub instances : ℕ
  pub created : List ℕ
  -- the variables in scope, the innermost last; the section depth, and the guard under which the section was opened
  pub scope : List Variable
  pub depth : ℕ
  pub opened : ℕ

-- an emission, with its answer
abbrev pub Emit : Type 0 → Type 0
Emit A = Emitted → A × Emitted

infixl 10 ◌>>=◌
abbrev pub ◌>>=◌ : {A B : Type 0} → Emit A → (A → Emit B) → Emit B
m >>= f = λ e. f (m e).0 (m e).1

infixl 10 ◌>>◌
abbrev pub ◌>>◌ : {A B : Type 0} → Emit A → Emit B → Emit B
m >> n = m >>= (λ _. n)

abbrev pub pure : {A : Type 0} → A → Emit A
pure a = λ e. (a, e)

abbrev pub nothing : Emit (Unit {0})
nothing = pure tt

abbrev pub look : {A : Type 0} → (Emitted → A) → Emit A
look f = λ e. (f e, e)

abbrev pub change : (Emitted → Emitted) → Emit (Unit {0})
change f = λ e. (tt, f e)

-- what a call gives that emits; want of memory tells nothing
abbrev pub Emits : {A : Type 0} → Result A OutOfMemory → Emitted → A × Emitted → Type 0
Emits (Ok a) e o = (a, e) ≡ o
Emits (Err x) e o = Unit {0}

-- ---- locals: 1 is the thread's own handle, 2 holds 1, 3 holds 0 and 4 the number of creates done; nobody writes 1 to 3

abbrev pub own_handle : ℕ
own_handle = 1

abbrev pub one : ℕ
one = 2

abbrev pub none : ℕ
none = 3

abbrev pub creates : ℕ
creates = 4

-- so many locals that were not used, by the first
abbrev pub fresh_cells : ℕ → Emit ℕ
fresh_cells n = λ e. (e.next, record e { next = e.next + n })

abbrev pub fresh : Emit ℕ
fresh = fresh_cells 1

abbrev pub holder_in : List Number → ℕ → Option ℕ
holder_in [] v = None
holder_in (x ∷ xs) v = cond (nat_eq x.value v) (Some x.local) (holder_in xs v)

abbrev pub hold : ℕ → Option ℕ → Emit ℕ
hold v (Some l) = pure l
hold v None = λ e. (e.next, record e { next = e.next + 1; numbers = e.numbers ++ record { value = v; local = e.next } ∷ [] })

-- the local that holds a number throughout
abbrev pub number : ℕ → Emit ℕ
number v = cond (nat_eq v 0) (pure none) (cond (nat_eq v 1) (pure one) (λ e. hold v (holder_in e.numbers v) e))

-- ---- steps

abbrev pub emit : ℕ → FlatAct → Emit (Unit {0})
emit g a = change (λ e. record e { steps = e.steps ++ record { guard = g; act = a } ∷ [] })

-- a new local with an operator's value, under the guard; 0 elsewhere
abbrev pub set : ℕ → Op → List ℕ → Emit ℕ
set g o args = do
  to ← fresh
  emit g (act.Set to o args)
  pure to

abbrev pub copy_to : ℕ → ℕ → ℕ → Emit (Unit {0})
copy_to g to from = emit g (act.Set to op.UnaryPlus (from ∷ []))

abbrev pub copy : ℕ → ℕ → Emit ℕ
copy g from = set g op.UnaryPlus (from ∷ [])

-- the local becomes 1, under the guard
abbrev pub mark : ℕ → ℕ → Emit (Unit {0})
mark g to = emit g (act.Put to 1)

-- the guard, where the value is not 0, and where it is
abbrev pub when : ℕ → ℕ → Emit ℕ
when g c = set g op.NotEqual (c ∷ none ∷ [])

abbrev pub unless : ℕ → ℕ → Emit ℕ
unless g c = set g op.Equal (c ∷ none ∷ [])

-- control comes from two places
abbrev pub join_guards : ℕ → ℕ → Emit ℕ
join_guards a b = do
  j ← fresh
  mark a j
  mark b j
  pure j

abbrev pub fail : ℕ → Place → Emit (Unit {0})
fail g p = emit g (act.Fail p 0)

-- ---- sections

-- at depth 0 alone
abbrev pub outside : Emit (Unit {0}) → Emit (Unit {0})
outside m = λ e. cond (nat_eq e.depth 0) m nothing e

-- the run goes no further: outside a section it has stopped, inside it is Bad
abbrev pub stop : ℕ → Emit (Unit {0})
stop g = λ e. emit g (cond (nat_eq e.depth 0) act.Stop act.Bad) e

-- a go number: 0 stops the run, 1 goes on, any other makes it Bad
abbrev pub ask : ℕ → Emit (Unit {0})
ask g = do
  t ← fresh
  emit g (act.Take t)
  z ← unless g t
  emit z act.Stop
  b ← set g op.NotEqual (t ∷ one ∷ [])
  emit b act.Bad

-- the guard of the section that is open is kept for its Close
abbrev pub keep_guard : ℕ → Emit (Unit {0})
keep_guard g = change (λ e. record e { opened = g })

abbrev pub open_there : ℕ → Emit (Unit {0})
open_there g = emit g act.Open >> keep_guard g

-- at depth 0 a go number, then Open
abbrev pub open_section : ℕ → Emit (Unit {0})
open_section g = outside (ask g >> open_there g)

-- the same without a go number
abbrev pub open_at_once : ℕ → Emit (Unit {0})
open_at_once g = outside (open_there g)

abbrev pub begin_section : ℕ → Emit (Unit {0})
begin_section g = open_section g >> change (λ e. record e { depth = e.depth + 1 })

abbrev pub close_section : Emit (Unit {0})
close_section = outside (λ e. emit e.opened act.Close e)

abbrev pub end_section : Emit (Unit {0})
end_section = change (λ e. record e { depth = e.depth - 1 }) >> close_section

-- ---- scopes

-- the variables declared inside are gone behind it
abbrev pub scoped : {A : Type 0} → Emit A → Emit A
scoped m = do
  n ← look (λ e. length e.scope)
  a ← m
  change (λ e. record e { scope = take n e.scope })
  pure a

-- the emission with no variables in scope; they come back behind it
abbrev pub apart : {A : Type 0} → Emit A → Emit A
apart m = do
  outer ← look (λ e. e.scope)
  change (λ e. record e { scope = [] })
  a ← m
  change (λ e. record e { scope = outer })
  pure a
