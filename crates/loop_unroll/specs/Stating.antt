-- What is emitted for statements, declarations and calls of functions, as `run_model`'s definitions say what they do.
use Rattle.std.specs.Prelude.{ℕ, zero, suc, ◌+◌, List, [], ◌∷◌, map, cond, Option, Some, None, nat_lt, length, slice_get}
use Rattle.dg_base.specs.declared.Place.{Place}
use Rattle.c_tree.specs.declared.expr.TypeWord.{TypeWord}
use Rattle.c_tree.specs.declared.expr.TypeWord.TheVariants as type
use Rattle.c_tree.specs.declared.expr.Expr.{Expr}
use Rattle.c_tree.specs.declared.stmt.Initialiser.{Initialiser}
use Rattle.c_tree.specs.declared.stmt.Initialiser.TheVariants.{One, Braces}
use Rattle.c_tree.specs.declared.stmt.Declarator.{Declarator}
use Rattle.c_tree.specs.declared.stmt.Start.{Start}
use Rattle.c_tree.specs.declared.stmt.Start.TheVariants as start
use Rattle.c_tree.specs.declared.stmt.Stmt.{Stmt, fold-Stmt}
use Rattle.c_tree.specs.declared.stmt.Stmt.TheOpen.{Stmt-F}
use Rattle.c_tree.specs.declared.program.Function.{Function}
use Rattle.c_check.specs.Limits.{cell_count}
use Rattle.run_model.specs.Calls.{Setting}
use Rattle.flat_prog.specs.declared.FlatAct.TheVariants as act
use Rattle.loop_unroll.specs.declared.targets.Targets.{Targets}
use Rattle.emit_steps.specs.Emitting.{Emit, ◌>>=◌, ◌>>◌, pure, nothing, one, none, fresh_cells, fresh, emit, copy_to, mark, when, unless, join_guards, stop, scoped, apart}
use Rattle.emit_steps.specs.Pieces.{Context, eval}
use Rattle.emit_steps.specs.Calling.{enter, parameters, call_body, with_function}

-- what is emitted for a statement, under a guard; the answer is the guard behind it
abbrev pub Body : Type 0
Body = Targets → ℕ → Emit ℕ

abbrev pub sequence : List Body → Body
sequence [] t g = pure g
sequence (m ∷ ms) t g = m t g >>= sequence ms t

-- what is declared inside is gone behind it
abbrev pub inside : Body → Body
inside m t g = scoped (m t g)

-- an expression that may be absent, and the local that stands for it then
abbrev pub eval_if : Context → ℕ → Option Expr → ℕ → Emit ℕ
eval_if cx other None g = pure other
eval_if cx other (Some e) g = eval cx e g

-- ---- loops

-- a loop whose bound is spent: where that is told it fails there, with tag 1; else it goes no further
abbrev pub spend : Setting → Place → ℕ → Emit (Unit {0})
spend s p g = cond s.full (emit g (act.Fail p 1)) (stop g)

-- where the test does not hold the loop is done; behind it stands the guard under which the loop goes on
abbrev pub leave : ℕ → ℕ → ℕ → Emit ℕ
leave done g v = do
  out ← unless g v
  mark out done
  when g v

abbrev pub targets : ℕ → ℕ → ℕ → Targets
targets done again result = record { done = done; again = again; result = result }

-- the body of a turn; behind it stands the guard of what comes next, also where the body was left by `continue`
abbrev pub one_turn : Body → ℕ → ℕ → ℕ → Emit ℕ
one_turn body done result g = do
  again ← fresh
  out ← inside body (targets done again result) g
  join_guards out again

-- so many turns, and the last test
abbrev pub turns : Setting → Place → ℕ → (ℕ → Emit ℕ) → Body → (ℕ → Emit ℕ) → ℕ → ℕ → ℕ → Emit (Unit {0})
turns s p zero test body step done result g = test g >>= leave done g >>= spend s p
turns s p (suc n) test body step done result g = do
  v ← test g
  on ← leave done g v
  j ← one_turn body done result on
  step j
  turns s p n test body step done result j

abbrev pub do_turns : Setting → Place → ℕ → (ℕ → Emit ℕ) → Body → ℕ → ℕ → ℕ → Emit (Unit {0})
do_turns s p zero test body done result g = spend s p g
do_turns s p (suc n) test body done result g = do
  j ← one_turn body done result g
  v ← test j
  on ← leave done j v
  do_turns s p n test body done result on

-- ---- declarations

-- a number is taken for each of so many cells
abbrev pub take_cells : ℕ → ℕ → ℕ → Emit (Unit {0})
take_cells g l zero = nothing
take_cells g l (suc n) = emit g (act.Take l) >> take_cells g (l + 1) n

-- a value is stored where there is a cell for it
abbrev pub store_value : ℕ → ℕ → ℕ → ℕ → ℕ → Emit (Unit {0})
store_value g l n j v = cond (nat_lt j n) (copy_to g (l + j) v) nothing

-- values are stored from the cell j of n on, each before the next is evaluated
abbrev pub store_values : Context → ℕ → ℕ → ℕ → ℕ → List Expr → Emit (Unit {0})
store_values cx g l n j [] = nothing
store_values cx g l n j (e ∷ es) = do
  v ← eval cx e g
  store_value g l n j v
  store_values cx g l n (j + 1) es

abbrev pub first_values : Context → TypeWord → ℕ → ℕ → ℕ → Option Initialiser → Emit (Unit {0})
first_values cx type.Thread g l n None = nothing
first_values cx w g l n None = take_cells g l n
first_values cx w g l n (Some (One e)) = store_values cx g l n 0 (e ∷ [])
first_values cx w g l n (Some (Braces es)) = store_values cx g l n 0 es

abbrev pub declare_one : Context → TypeWord → ℕ → Declarator → Emit (Unit {0})
declare_one cx w g d = do
  l ← fresh_cells (cell_count d)
  enter w d.name l (cell_count d)
  first_values cx w g l (cell_count d) d.initialiser

abbrev pub declare_all : Context → TypeWord → ℕ → List Declarator → Emit (Unit {0})
declare_all cx w g [] = nothing
declare_all cx w g (d ∷ ds) = declare_one cx w g d >> declare_all cx w g ds

-- ---- the forms

abbrev pub if_any : Option Body → Body
if_any None t g = pure g
if_any (Some m) t g = inside m t g

abbrev pub begin_for : Context → Start → ℕ → Emit (Unit {0})
begin_for cx start.Nothing g = nothing
begin_for cx (start.Expr e) g = eval cx e g >> nothing
begin_for cx (start.Declare d) g = declare_all cx d.word g d.declarators

-- a loop with its test before the body; a `for` without a test is one whose test holds
abbrev pub loop : Context → Place → Option Expr → Option Expr → Body → Body
loop cx p t e m k g = do
  done ← fresh
  turns cx.setting p cx.setting.turns (eval_if cx one t) m (eval_if cx none e) done k.result g
  pure done

abbrev pub do_loop : Context → Place → Body → Expr → Body
do_loop cx p m x k g = do
  done ← fresh
  do_turns cx.setting p cx.setting.turns (eval cx x) m done k.result g
  pure done

-- the guards of both branches join
abbrev pub either : Body → Option Body → Targets → ℕ → ℕ → Emit ℕ
either a c t g v = do
  if_true ← when g v
  if_false ← unless g v
  h ← inside a t if_true
  k ← if_any c t if_false
  join_guards h k

-- the value goes to the call's result; nothing is behind
abbrev pub give : Targets → ℕ → ℕ → Emit ℕ
give t g v = copy_to g t.result v >> pure none

abbrev pub jump : ℕ → ℕ → Emit ℕ
jump g to = mark g to >> pure none

-- A statement's emission, from those of its parts. A statement that is part of another one is a scope of its own.
abbrev pub stmt_step : Context → Stmt-F Body → Body
stmt_step cx (Stmt-F.Empty p) t g = pure g
stmt_step cx (Stmt-F.Expr p e) t g = eval cx e g >> pure g
stmt_step cx (Stmt-F.Declare d) t g = declare_all cx d.word g d.declarators >> pure g
stmt_step cx (Stmt-F.Block p ms) t g = inside (sequence ms) t g
stmt_step cx (Stmt-F.Label p n m) t g = inside m t g
stmt_step cx (Stmt-F.If p x a c) t g = eval cx x g >>= either a c t g
stmt_step cx (Stmt-F.While p x m) t g = loop cx p (Some x) None m t g
stmt_step cx (Stmt-F.DoWhile p m x) t g = do_loop cx p m x t g
stmt_step cx (Stmt-F.For p first x e m) t g = scoped (begin_for cx first g >> loop cx p x e m t g)
stmt_step cx (Stmt-F.Return p e) t g = eval_if cx none e g >>= give t g
stmt_step cx (Stmt-F.Break p) t g = jump g t.done
stmt_step cx (Stmt-F.Continue p) t g = jump g t.again

abbrev pub execute : Context → Stmt → Body
execute cx = fold-Stmt Body (stmt_step cx)

abbrev pub execute_all : Context → List Stmt → Body
execute_all cx ss = sequence (map (execute cx) ss)

-- ---- functions

-- the statements of a body, which no loop is around; the answer is the local where its value is put
abbrev pub statements : Context → List Stmt → ℕ → Emit ℕ
statements cx ss g = do
  result ← fresh
  done ← fresh
  again ← fresh
  execute_all cx ss (targets done again result) g
  pure result

-- the body with its parameters as its only variables
abbrev pub run_body : Context → Function → List ℕ → ℕ → Emit ℕ
run_body cx f args g = apart (parameters g 0 f.params args >> statements cx f.body g)

-- calls stand at most so deep in one another
abbrev pub call_within : ℕ → Setting → ℕ → List ℕ → ℕ → Emit ℕ
call_within zero s f args g = stop g >> pure none
call_within (suc n) s f args g = with_function (slice_get s.functions f) g (λ h. call_body h g (run_body (record { setting = s; call = call_within n s }) h args g))

abbrev pub context_within : ℕ → Setting → Context
context_within n s = record { setting = s; call = call_within n s }

-- what is emitted for an instance of a function: its parameter is the argument, which is local 0
abbrev pub instance_body : Setting → Function → Emit ℕ
instance_body s f = run_body (context_within (length s.functions) s) f (0 ∷ []) one
