-- A call of a section that the lowered program has does what the row of the call says.
use Rattle.std.specs.Prelude.{suc, slice_get, ◌≡◌, ℕ, List, [], true, Some, None, codes}
use Rattle.dg_base.specs.declared.Place.{Place}
use Rattle.c_tree.specs.declared.expr.TypeWord.TheVariants as type
use Rattle.c_tree.specs.declared.stmt.Stmt.{Stmt}
use Rattle.c_tree.specs.declared.program.Function.{Function}
use Rattle.c_rules.specs.Names.{Name}
use Rattle.run_model.specs.declared.state.Shared.{Shared}
use Rattle.run_model.specs.Steps.{State, Outcome, Goes, Halts, Step, ◌>>◌, pure}
use Rattle.run_model.specs.Cells.{shared_named}
use Rattle.run_model.specs.Calls.{Context, function_named, Setting}
use Rattle.run_model.specs.Threads.{call_body, context_within}
use Rattle.c_tree.specs.declared.expr.Expr.{Expr}
use Rattle.run_model.specs.Meaning.{eval, meaning}
use Rattle.cond_lower.specs.declared.calls.CondCall.{CondCall}
use Rattle.cond_lower.specs.declared.fault.Wakeups.{Wakeups}
use Rattle.cond_lower.specs.Lowering.{lowered_call, waiting, tokens, enter, enter_body, take, take_body, signal, signal_body, broadcast, broadcast_body, init, init_body}
use Rattle.cond_runs.specs.Rows.{cond_row, enters, takes, signals, broadcasts, inits}

-- both go on with one value and one state, or both halt alike, after the same actions and as many numbers
abbrev pub SeenAlike : {A : Type 0} → Outcome A → Outcome A → Type 0
SeenAlike (Goes a s) (Goes b t) = (a ≡ b) × (s ≡ t)
SeenAlike (Halts h s) (Halts k t) = (h ≡ k) × (s.actions ≡ t.actions) × (s.used ≡ t.used)
SeenAlike _ _ = ⊥

-- a variable of one cell
abbrev pub counter_at : Name → ℕ → Shared
counter_at n c = record { name = n; unsigned = true; first = c; count = 1 }

-- these are the cells of the condition variable c
pub record HasCells (shared : List Shared) (c : Name) (w t : ℕ) : Type 0 where
  pub waits : shared_named shared (waiting c) ≡ Some (counter_at (waiting c) w)
  pub gives : shared_named shared (tokens c) ≡ Some (counter_at (tokens c) t)

abbrev pub section_of : Place → Name → List Stmt → Function
section_of p n body = record { place = p; word = type.Int; name = n; params = []; body = body }

-- a call of the function with this body is seen as these steps are
abbrev pub RunsAs : Context → Function → Step (Unit {0}) → Type 0
RunsAs cx f m = (s : State) → SeenAlike (call_body cx f [] s) ((m >> pure 0) s)

-- each section on the condition variable
abbrev pub IsRow : (Place → Name → Function) → (ℕ → ℕ → Step (Unit {0})) → Type 0
IsRow f m = (cx : Context) (p : Place) (c : Name) (w t : ℕ) → HasCells cx.setting.shared c w t → RunsAs cx (f p c) (m w t)

abbrev pub EnterIsRow : Type 0
EnterIsRow = IsRow (λ p c. section_of p (enter c) (enter_body p c)) (λ w t. enters w)

-- no function of the program has the name of the built-in call that `take` makes
abbrev pub TakeIsRow : Type 0
TakeIsRow = (cx : Context) (p : Place) (c : Name) (w t : ℕ) → HasCells cx.setting.shared c w t → function_named cx.setting (codes "__VERIFIER_assume") ≡ None
    → RunsAs cx (section_of p (take c) (take_body p c)) (takes t)

abbrev pub SignalIsRow : Type 0
SignalIsRow = IsRow (λ p c. section_of p (signal c) (signal_body p c)) signals

abbrev pub BroadcastIsRow : Type 0
BroadcastIsRow = IsRow (λ p c. section_of p (broadcast c) (broadcast_body p c)) broadcasts

abbrev pub InitIsRow : Type 0
InitIsRow = IsRow (λ p c. section_of p (init c) (init_body p c)) inits

-- the function of this name is called as these steps are
pub record CalledAs (cx : Context) (n : Name) (m : Step (Unit {0})) : Type 0 where
  pub number : ℕ
  pub named : function_named cx.setting n ≡ Some number
  pub alike : (s : State) → SeenAlike (cx.call number [] s) ((m >> pure 0) s)

-- the sections on the condition variable c are called as the rows are, and no function has the name of a built-in call
pub record CallsSections (cx : Context) (c : Name) (w t : ℕ) : Type 0 where
  pub enters_one : CalledAs cx (enter c) (enters w)
  pub takes_one : CalledAs cx (take c) (takes t)
  pub signals_one : CalledAs cx (signal c) (signals w t)
  pub broadcasts_all : CalledAs cx (broadcast c) (broadcasts w t)
  pub begins_anew : CalledAs cx (init c) (inits w t)
  pub no_lock : function_named cx.setting (codes "pthread_mutex_lock") ≡ None
  pub no_unlock : function_named cx.setting (codes "pthread_mutex_unlock") ≡ None

-- what a call on a condition variable becomes is seen as its row: a wait among them, with its unlock before it takes its token
abbrev pub CallsAreRows : Type 0
CallsAreRows = (wakeups : Wakeups) (cx : Context) (p : Place) (call : CondCall) (c : Name) (m : Expr) (w t : ℕ) → CallsSections cx c w t
    → (s : State) → SeenAlike (eval cx (lowered_call wakeups p call c m) s) ((cond_row wakeups call w t (meaning cx m) >> pure 0) s)

-- the function of this name is this one
pub record Holds (g : Setting) (n : Name) (f : Function) : Type 0 where
  pub number : ℕ
  pub named : function_named g n ≡ Some number
  pub is : slice_get g.functions number ≡ Some f

-- the program has the sections on the condition variable c, and no function with the name of a built-in call that the rows make
pub record HasSections (g : Setting) (p : Place) (c : Name) : Type 0 where
  pub enter_one : Holds g (enter c) (section_of p (enter c) (enter_body p c))
  pub take_one : Holds g (take c) (section_of p (take c) (take_body p c))
  pub signal_one : Holds g (signal c) (section_of p (signal c) (signal_body p c))
  pub broadcast_all : Holds g (broadcast c) (section_of p (broadcast c) (broadcast_body p c))
  pub begin_anew : Holds g (init c) (section_of p (init c) (init_body p c))
  pub no_assume : function_named g (codes "__VERIFIER_assume") ≡ None
  pub no_lock : function_named g (codes "pthread_mutex_lock") ≡ None
  pub no_unlock : function_named g (codes "pthread_mutex_unlock") ≡ None

-- in a program that has them, what a call on a condition variable becomes is seen as its row, wherever one more call may stand
abbrev pub ProgramsCallRows : Type 0
ProgramsCallRows = (wakeups : Wakeups) (depth : ℕ) (g : Setting) (p at : Place) (call : CondCall) (c : Name) (m : Expr) (w t : ℕ)
    → HasCells g.shared c w t → HasSections g p c → (s : State)
    → SeenAlike (eval (context_within (suc depth) g) (lowered_call wakeups at call c m) s) ((cond_row wakeups call w t (meaning (context_within (suc depth) g) m) >> pure 0) s)
