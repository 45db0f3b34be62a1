-- What names stand for: variables in scope, functions with a body, built-in calls.
use Rattle.std.specs.Prelude.{ℕ, List, [], ◌∷◌, Bool, true, false, ◌||◌, cond, length, drop, Option, Some, None, codes}
use Rattle.std.specs.Str.{bytes_eq}
use Rattle.c_tree.specs.declared.expr.TypeWord.{TypeWord}
use Rattle.c_tree.specs.declared.program.Function.{Function}
use Rattle.c_tree.specs.declared.program.Item.{Item}
use Rattle.c_tree.specs.declared.program.Item.TheVariants as item
use Rattle.c_rules.specs.declared.builtin.Builtin.{Builtin}
use Rattle.c_rules.specs.declared.builtin.Builtin.TheVariants as b
use Rattle.c_rules.specs.declared.names.Variable.{Variable}
use Rattle.c_rules.specs.declared.names.Entry.{Entry}
use Rattle.c_rules.specs.declared.names.Meaning.{Meaning}
use Rattle.c_rules.specs.declared.names.Meaning.TheVariants as meaning

abbrev pub Name : Type 0
Name = List ℕ

abbrev pub or_else : {A : Type 0} → Option A → Option A → Option A
or_else (Some a) o = Some a
or_else None o = o

abbrev pub is_some : {A : Type 0} → Option A → Bool
is_some None = false
is_some (Some a) = true

-- the built-in calls of threads and mutexes
abbrev pub thread_calls : List (Name × Builtin)
thread_calls =
    (codes "pthread_create", b.PthreadCreate) ∷ (codes "pthread_join", b.PthreadJoin) ∷ (codes "pthread_exit", b.PthreadExit)
    ∷ (codes "pthread_mutex_lock", b.Lock) ∷ (codes "pthread_mutex_unlock", b.Unlock) ∷ (codes "pthread_mutex_init", b.Init) ∷ (codes "pthread_mutex_destroy", b.Destroy) ∷ []

-- the others
abbrev pub other_calls : List (Name × Builtin)
other_calls =
    (codes "exit", b.Exit) ∷ (codes "abort", b.Abort)
    ∷ (codes "assert", b.Assert) ∷ (codes "__VERIFIER_assume", b.Assume)
    ∷ (codes "__assert_fail", b.AssertFail) ∷ (codes "reach_error", b.ReachError) ∷ (codes "__VERIFIER_error", b.ReachError)
    ∷ (codes "__VERIFIER_nondet_int", b.AnyInt) ∷ (codes "__VERIFIER_nondet_uint", b.AnyUint) ∷ (codes "__VERIFIER_nondet_bool", b.AnyBool)
    ∷ (codes "__VERIFIER_atomic_begin", b.Begin) ∷ (codes "__VERIFIER_atomic_end", b.Finish) ∷ (codes "__sync_synchronize", b.Synchronize) ∷ []

-- what stands beside the first key that is this name
abbrev pub look_up : {A : Type 0} → List (Name × A) → Name → Option A
look_up [] n = None
look_up (p ∷ ps) n = cond (bytes_eq p.0 n) (Some p.1) (look_up ps n)

abbrev pub builtin_named : Name → Option Builtin
builtin_named n = or_else (look_up thread_calls n) (look_up other_calls n)

-- `assert` and `reach_error` alone may be a program's own functions too
abbrev pub may_be_defined : Name → Bool
may_be_defined n = bytes_eq (codes "assert") n || bytes_eq (codes "reach_error") n

-- the functions with a body, in the order of the text
abbrev pub functions_of : List Item → List Function
functions_of [] = []
functions_of (item.Function f ∷ xs) = f ∷ functions_of xs
functions_of (item.Prototype p w n ∷ xs) = functions_of xs
functions_of (item.Shared d ∷ xs) = functions_of xs

abbrev pub function_named : List Function → Name → Option Function
function_named [] n = None
function_named (f ∷ fs) n = cond (bytes_eq f.name n) (Some f) (function_named fs n)

-- the latest variable of this name
abbrev pub variable_in : List Entry → Name → Option Variable
variable_in [] n = None
variable_in (e ∷ es) n = or_else (variable_in es n) (cond (bytes_eq e.name n) e.variable None)

abbrev pub is_declared : List Entry → Name → Bool
is_declared [] n = false
is_declared (e ∷ es) n = bytes_eq e.name n || is_declared es n

-- The scope that something stands in: what it and the scopes around it have declared so far, the latest last; how much of that
-- the scopes around it have; whether it is the top of the program; whether a loop is around; and the type of the function around.
pub record Scope : Type 0 where
  pub entries : List Entry
  pub start : ℕ
  pub top : Bool
  pub in_loop : Bool
  pub function : TypeWord

-- what the scope itself has declared
abbrev pub own_entries : Scope → List Entry
own_entries s = drop s.start s.entries

-- the innermost and latest variable of a name
abbrev pub variable_named : Scope → Name → Option Variable
variable_named s n = variable_in s.entries n

abbrev pub meaning_in : Option Variable → Option Function → Option Builtin → Meaning
meaning_in (Some v) f c = meaning.Variable v
meaning_in None (Some f) c = meaning.Function f.word (length f.params)
meaning_in None None (Some c) = meaning.Builtin c
meaning_in None None None = meaning.Nothing

-- a name stands for the innermost variable in scope, else for the function with a body, else for the built-in call
abbrev pub meaning_of : List Function → Scope → Name → Meaning
meaning_of functions s n = meaning_in (variable_named s n) (function_named functions n) (builtin_named n)
