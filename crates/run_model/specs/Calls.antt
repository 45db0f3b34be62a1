-- What the built-in calls do.
use Rattle.std.specs.Prelude.{ℕ, ◌+◌, ◌*◌, List, Bool, false, cond, Option, Some, None, nat_eq, nat_lt, unwrap_or, slice_get}
use Rattle.dg_base.specs.declared.Place.{Place}
use Rattle.dg_base.specs.Values.{is_true}
use Rattle.axiom_model.specs.declared.Action.TheVariants.{Read, Write, Open, Close, Fence, Create, Join, End}
use Rattle.c_tree.specs.declared.program.Function.{Function}
use Rattle.c_rules.specs.declared.builtin.Builtin.{Builtin}
use Rattle.c_rules.specs.declared.builtin.Builtin.TheVariants as b
use Rattle.c_rules.specs.Names.{Name}
use Rattle.run_model.specs.declared.state.Ending.TheVariants.{Ended, Stopped, Bound, Bad}
use Rattle.run_model.specs.declared.state.Halt.TheVariants.{Over}
use Rattle.run_model.specs.declared.state.Shared.{Shared}
use Rattle.run_model.specs.declared.state.Need.TheVariants.{ReadOf, Truth, Any}
use Rattle.run_model.specs.declared.state.Slot.{Slot}
use Rattle.run_model.specs.declared.state.Slot.TheVariants.{Own, Common}
use Rattle.run_model.specs.Names.{first_named}
use Rattle.run_model.specs.Steps.{State, Halts, Step, ◌>>=◌, ◌>>◌, pure, nothing, look, change, ends, make, take_number, ask, outside, open_section, begin_section, end_section, stop, fail}
use Rattle.run_model.specs.Cells.{write}

-- What an expression means: its evaluation; the finding of its cell, where it is an lvalue or an lvalue behind `&`;
-- whether its value is Uint; and its name, where it is a name alone or behind `&`.
pub record Meaning : Type 0 where
  pub run : Step ℕ
  pub find : Step Slot
  pub unsigned : State → Bool
  pub spelled : Option Name

-- What a run needs of the program: its shared variables and its functions; the bound on loops, and whether the run ends where
-- one is spent; the thread's own handle; and what a call does whose name is neither a function's with a body nor a built-in call's.
pub record Setting : Type 0 where
  pub shared : List Shared
  pub functions : List Function
  pub turns : ℕ
  pub full : Bool
  pub handle : ℕ
  pub other : Name → List Meaning → Step ℕ

-- a checked program has no such call
abbrev pub no_other : Name → List Meaning → Step ℕ
no_other name args = stop

-- a loop's bound is spent: where that is told, the run ends at the loop's place, in a section too; else it goes no further
abbrev pub spend : {A : Type 0} → Setting → Place → Step A
spend g p = λ s. Halts (Over (cond g.full (Bound p) (cond (nat_eq s.depth 0) Stopped Bad))) s

-- the same, with what a call of a function does, by the function's number
pub record Context : Type 0 where
  pub setting : Setting
  pub call : ℕ → List ℕ → Step ℕ

-- the number of the function with a body of this name
abbrev pub function_named : Setting → Name → Option ℕ
function_named g name = first_named (λ (f : Function). f.name) 0 g.functions name

-- the function that an argument names
abbrev pub function_in : Setting → Option Name → ℕ
function_in g None = 0
function_in g (Some n) = unwrap_or (function_named g n) 0

-- a mutex is a cell that holds 0 or 1: it is read as 0, and then is 1
abbrev pub hold : Slot → Step (Unit {0})
hold (Own i j) = nothing
hold (Common m) = do
  v ← take_number (ReadOf m)
  make (Read m v)
  cond (nat_eq v 0) nothing (ends Bad)
  make (Write m 1)

-- a lock is a section of its own, where it stands in none; a go number comes before it
abbrev pub lock_cell : Slot → Step (Unit {0})
lock_cell m = do
  open_section
  hold m
  outside (make Close)

-- an unlock is one without a go number
abbrev pub unlock_cell : Slot → Step (Unit {0})
unlock_cell m = do
  outside (make Open)
  write m 0
  outside (make Close)

-- the run of a thread comes to its end
abbrev pub finish : {A : Type 0} → Step A
finish = make End >> ends Ended

-- an exit inside a section is Bad
abbrev pub exit_thread : {A : Type 0} → Step A
exit_thread = λ s. cond (nat_eq s.depth 0) finish (ends Bad) s

-- a bool that is neither 0 nor 1 makes the run Bad
abbrev pub any_bool : Step ℕ
any_bool = do
  v ← take_number Truth
  cond (nat_lt v 2) (pure v) (ends Bad)

-- a new thread of a function: its handle is 64 times the thread's own plus the number of creates done plus 1
abbrev pub create : Setting → Slot → ℕ → ℕ → Step ℕ
create g v f arg = do
  n ← look (λ s. s.created)
  change (λ s. record s { created = s.created + 1 })
  write v (64 * g.handle + n + 1)
  make (Create (64 * g.handle + n + 1) f arg)
  pure 0

-- a join waits behind a go number, but in a section
abbrev pub join : ℕ → Step ℕ
join h = do
  outside ask
  make (Join h)
  pure 0

-- what stands for an argument that is not there; the check of a program has counted them
abbrev pub no_argument : Meaning
no_argument = record { run = pure 0; find = stop; unsigned = λ s. false; spelled = None }

abbrev pub argument_in : Option Meaning → Meaning
argument_in None = no_argument
argument_in (Some m) = m

-- the argument of this number, from 0
abbrev pub argument : List Meaning → ℕ → Meaning
argument args i = argument_in (slice_get args i)

-- a built-in call, by what its arguments mean; an argument that is the constant 0 does nothing
abbrev pub builtin_call : Setting → Place → Builtin → List Meaning → Step ℕ
builtin_call g p b.PthreadCreate args = do
  cell ← (argument args 0).find
  arg ← (argument args 3).run
  create g cell (function_in g (argument args 2).spelled) arg
builtin_call g p b.PthreadJoin args = (argument args 0).run >>= join
builtin_call g p b.PthreadExit args = (argument args 0).run >> exit_thread
builtin_call g p b.Exit args = (argument args 0).run >> stop
builtin_call g p b.Abort args = stop
builtin_call g p b.Lock args = do
  cell ← (argument args 0).find
  lock_cell cell
  pure 0
builtin_call g p b.Unlock args = do
  cell ← (argument args 0).find
  unlock_cell cell
  pure 0
builtin_call g p b.Init args = do
  cell ← (argument args 0).find
  unlock_cell cell
  pure 0
builtin_call g p b.Destroy args = (argument args 0).find >> pure 0
builtin_call g p b.Assert args = do
  v ← (argument args 0).run
  cond (is_true v) (pure 0) (fail p)
builtin_call g p b.Assume args = do
  v ← (argument args 0).run
  cond (is_true v) (pure 0) stop
builtin_call g p b.AssertFail args = fail p
builtin_call g p b.ReachError args = fail p
builtin_call g p b.AnyInt args = take_number Any
builtin_call g p b.AnyUint args = take_number Any
builtin_call g p b.AnyBool args = any_bool
builtin_call g p b.Begin args = begin_section >> pure 0
builtin_call g p b.Finish args = end_section >> pure 0
builtin_call g p b.Synchronize args = make Fence >> pure 0
