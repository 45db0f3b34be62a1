-- What is emitted for each form of expression and of built-in call, as `run_model`'s definitions say what it does.
use Rattle.std.specs.Prelude.{ℕ, zero, suc, ◌+◌, List, [], ◌∷◌, ◌++◌, Bool, true, false, cond, nat_eq, ◌||◌, Option, Some, None, slice_get}
use Rattle.dg_base.specs.declared.Place.{Place}
use Rattle.dg_base.specs.declared.operators.Op.TheVariants as op
use Rattle.c_tree.specs.declared.expr.StepOp.{StepOp}
use Rattle.c_tree.specs.declared.expr.BinaryOp.{BinaryOp}
use Rattle.c_tree.specs.declared.expr.BinaryOp.TheVariants as binary
use Rattle.c_tree.specs.declared.expr.AssignOp.{AssignOp}
use Rattle.c_tree.specs.declared.expr.AssignOp.TheVariants.{Plain, With}
use Rattle.c_tree.specs.declared.expr.Expr.{Expr, fold-Expr}
use Rattle.c_tree.specs.declared.expr.Expr.TheOpen.{Expr-F}
use Rattle.c_tree.specs.Operators.{word_unsigned, unary_op, unary_unsigned, binary_op, binary_unsigned, divides, step_op}
use Rattle.c_rules.specs.declared.builtin.Builtin.{Builtin}
use Rattle.c_rules.specs.declared.builtin.Builtin.TheVariants as b
use Rattle.c_rules.specs.Names.{Name, builtin_named}
use Rattle.run_model.specs.declared.state.Shared.{Shared}
use Rattle.run_model.specs.Names.{last_named}
use Rattle.run_model.specs.Cells.{shared_named, shared_unsigned}
use Rattle.run_model.specs.Calls.{Setting, function_named, function_in}
use Rattle.run_model.specs.Meaning.{result_unsigned}
use Rattle.flat_prog.specs.declared.FlatAct.TheVariants as act
use Rattle.emit_steps.specs.declared.state.Variable.{Variable}
use Rattle.emit_steps.specs.declared.state.Cell.{Cell}
use Rattle.emit_steps.specs.declared.state.Cell.TheVariants.{Own, Common}
use Rattle.emit_steps.specs.Emitting.{Emit, ◌>>=◌, ◌>>◌, pure, nothing, own_handle, one, none, creates, fresh, number, emit, set, copy_to, when, unless, fail, outside, stop, ask, open_section, open_at_once, begin_section, close_section, end_section}

-- What is emitted for an expression, under a guard: the local with its value; the cells that it may name; whether its value is
-- Uint, by the variables in scope; and its name, where it is one.
pub record Piece : Type 0 where
  pub run : ℕ → Emit ℕ
  pub find : ℕ → Emit (List Cell)
  pub unsigned : List Variable → Bool
  pub spelled : Option Name

-- what an emission needs of the program, and what is emitted for a call of a function, by its number
pub record Context : Type 0 where
  pub setting : Setting
  pub call : ℕ → List ℕ → ℕ → Emit ℕ

-- ---- cells

abbrev pub read_cell : ℕ → Cell → Emit (Unit {0})
read_cell v (Own g l) = copy_to g v l
read_cell v (Common g c) = emit g (act.Read c v)

abbrev pub read_cells : ℕ → List Cell → Emit (Unit {0})
read_cells v [] = nothing
read_cells v (c ∷ cs) = read_cell v c >> read_cells v cs

-- the value of the one cell whose guard is 1
abbrev pub read : List Cell → Emit ℕ
read cs = do
  v ← fresh
  read_cells v cs
  pure v

abbrev pub write_cell : ℕ → Cell → Emit (Unit {0})
write_cell v (Own g l) = copy_to g l v
write_cell v (Common g c) = emit g (act.Write c v)

abbrev pub write : List Cell → ℕ → Emit (Unit {0})
write [] v = nothing
write (c ∷ cs) v = write_cell v c >> write cs v

abbrev pub cell : Bool → ℕ → ℕ → Cell
cell true g n = Own g n
cell false g n = Common g n

-- Cells behind those that are there already: so many of those whose first one has the number n, from the number j on. Each is
-- meant where the index is its own.
abbrev pub cells_where : List Cell → Bool → ℕ → ℕ → ℕ → ℕ → ℕ → Emit (List Cell)
cells_where done own g i n j zero = pure done
cells_where done own g i n j (suc m) = do
  c ← number j
  e ← set g op.Equal (i ∷ c ∷ [])
  cells_where (done ++ cell own e (n + j) ∷ []) own g i n (j + 1) m

-- the cells of an array, at an index that is tested
abbrev pub cells_at : Place → Bool → ℕ → ℕ → ℕ → ℕ → Emit (List Cell)
cells_at p own g n count i = do
  c ← number count
  ok ← set g op.LessUint (i ∷ c ∷ [])
  bad ← unless g ok
  fail bad p
  cells_where [] own g i n 0 count

-- the first cell, where there is one
abbrev pub first_cell : Place → Bool → ℕ → ℕ → ℕ → Emit (List Cell)
first_cell p own g n zero = fail g p >> pure []
first_cell p own g n (suc m) = pure (cell own g n ∷ [])

-- the first cell, or that of an index
abbrev pub at_index : Place → Bool → ℕ → ℕ → ℕ → Option ℕ → Emit (List Cell)
at_index p own g n count None = first_cell p own g n count
at_index p own g n count (Some i) = cells_at p own g n count i

-- what names no cell
abbrev pub no_cell : ℕ → Emit (List Cell)
no_cell g = stop g >> pure []

abbrev pub in_shared : Place → ℕ → Option ℕ → Option Shared → Emit (List Cell)
in_shared p g i None = no_cell g
in_shared p g i (Some v) = at_index p false g v.first v.count i

abbrev pub in_scope : List Shared → Place → Name → ℕ → Option ℕ → Option Variable → Emit (List Cell)
in_scope shared p name g i None = in_shared p g i (shared_named shared name)
in_scope shared p name g i (Some v) = at_index p true g v.first v.count i

abbrev pub last_of : List Variable → Option ℕ → Option Variable
last_of vs None = None
last_of vs (Some n) = slice_get vs n

-- the innermost variable of this name
abbrev pub variable_named : List Variable → Name → Option Variable
variable_named vs name = last_of vs (last_named (λ (v : Variable). v.name) 0 vs name)

abbrev pub find_cells : List Shared → Place → Name → ℕ → Option ℕ → Emit (List Cell)
find_cells shared p name g i = λ e. in_scope shared p name g i (variable_named e.scope name) e

abbrev pub unsigned_by : List Shared → Name → Option Variable → Bool
unsigned_by shared name None = shared_unsigned (shared_named shared name)
unsigned_by shared name (Some v) = v.unsigned

abbrev pub name_unsigned : List Shared → Name → List Variable → Bool
name_unsigned shared name vs = unsigned_by shared name (variable_named vs name)

-- ---- expressions

abbrev pub value : (List Variable → Bool) → (ℕ → Emit ℕ) → Piece
value unsigned run = record { run = run; find = no_cell; unsigned = unsigned; spelled = None }

abbrev pub lvalue : Option Name → (List Variable → Bool) → (ℕ → Emit (List Cell)) → Piece
lvalue spelled unsigned find = record { run = λ g. find g >>= read; find = find; unsigned = unsigned; spelled = spelled }

abbrev pub int : List Variable → Bool
int vs = false

-- a division fails at its place where the divisor is 0
abbrev pub test_divisor : Place → BinaryOp → ℕ → ℕ → Emit (Unit {0})
test_divisor p o g y = cond (divides o) (unless g y >>= (λ z. fail z p)) nothing

abbrev pub operate : Place → BinaryOp → Bool → Bool → ℕ → ℕ → ℕ → Emit ℕ
operate p o u w g x y = test_divisor p o g y >> set g (binary_op o u w) (x ∷ y ∷ [])

abbrev pub typed : Place → BinaryOp → Piece → Piece → ℕ → ℕ → ℕ → Emit ℕ
typed p o l r g x y = λ e. operate p o (l.unsigned e.scope) (r.unsigned e.scope) g x y e

-- the right operand of `&&` and `||` under a guard of its own
abbrev pub binary_run : Place → BinaryOp → Piece → Piece → ℕ → Emit ℕ
binary_run p binary.LogicAnd l r g = do
  x ← l.run g
  if_true ← when g x
  y ← r.run if_true
  when if_true y
binary_run p binary.LogicOr l r g = do
  x ← l.run g
  v ← when g x
  if_false ← unless g x
  y ← r.run if_false
  emit if_false (act.Set v op.NotEqual (y ∷ none ∷ []))
  pure v
binary_run p o l r g = do
  x ← l.run g
  y ← r.run g
  typed p o l r g x y

abbrev pub assign : Place → AssignOp → Piece → Piece → ℕ → Emit ℕ
assign p Plain l e g = do
  cs ← l.find g
  v ← e.run g
  write cs v
  pure v
assign p (With o) l e g = do
  cs ← l.find g
  old ← read cs
  v ← e.run g
  new ← typed p o l e g old v
  write cs new
  pure new

-- `++` and `--`, with the value before and behind
abbrev pub count : Place → StepOp → Piece → ℕ → Emit (ℕ × ℕ)
count p o l g = do
  cs ← l.find g
  old ← read cs
  new ← (λ e. operate p (step_op o) (l.unsigned e.scope) false g old one e)
  write cs new
  pure (old, new)

-- the value of one of two expressions goes into one local
abbrev pub choose : Piece → Piece → Piece → ℕ → Emit ℕ
choose t l r g = do
  x ← t.run g
  if_true ← when g x
  if_false ← unless g x
  v ← fresh
  y ← l.run if_true
  copy_to if_true v y
  z ← r.run if_false
  copy_to if_false v z
  pure v

-- ---- built-in calls

-- an argument that is not there
abbrev pub no_argument : Piece
no_argument = record { run = λ g. pure none; find = no_cell; unsigned = int; spelled = None }

abbrev pub argument_in : Option Piece → Piece
argument_in None = no_argument
argument_in (Some m) = m

abbrev pub argument : List Piece → ℕ → Piece
argument args i = argument_in (slice_get args i)

-- the shared ones of these cells; a mutex is one
abbrev pub common_in : List Cell → List Cell
common_in [] = []
common_in (Own g l ∷ cs) = common_in cs
common_in (Common g c ∷ cs) = Common g c ∷ common_in cs

-- a mutex is read as 0, and then is 1
abbrev pub hold_cells : ℕ → List Cell → Emit (Unit {0})
hold_cells g cs = do
  v ← read cs
  held ← when g v
  emit held act.Bad
  write cs one

-- a lock is a section of its own, where it stands in none
abbrev pub lock_cells : ℕ → List Cell → Emit (Unit {0})
lock_cells g cs = do
  open_section g
  hold_cells g (common_in cs)
  close_section

abbrev pub unlock_cells : ℕ → List Cell → Emit (Unit {0})
unlock_cells g cs = do
  open_at_once g
  write cs none
  close_section

abbrev pub exit_thread : ℕ → Emit (Unit {0})
exit_thread g = λ e. emit g (cond (nat_eq e.depth 0) act.End act.Bad) e

abbrev pub any : ℕ → Emit ℕ
any g = do
  v ← fresh
  emit g (act.Take v)
  pure v

abbrev pub any_bool : ℕ → Emit ℕ
any_bool g = do
  v ← any g
  bad ← set g op.LessUint (one ∷ v ∷ [])
  emit bad act.Bad
  pure v

-- a new instance of a function; its number is the next one
abbrev pub name_instance : ℕ → Emit ℕ
name_instance f = λ e. (e.instances, record e { instances = e.instances + 1; created = e.created ++ f ∷ [] })

-- the handle of the next thread: 64 times the thread's own plus the number of creates done plus 1
abbrev pub next_handle : ℕ → Emit ℕ
next_handle g = do
  c ← number 64
  base ← set g op.Times (own_handle ∷ c ∷ [])
  sum ← set g op.Plus (base ∷ creates ∷ [])
  set g op.Plus (sum ∷ one ∷ [])

abbrev pub create : ℕ → List Cell → ℕ → ℕ → Emit ℕ
create g cs f arg = do
  h ← next_handle g
  i ← name_instance f
  emit g (act.Set creates op.Plus (creates ∷ one ∷ []))
  write cs h
  emit g (act.Create i h arg)
  pure none

-- a call whose value is 0
abbrev pub no_value : Emit (Unit {0}) → Emit ℕ
no_value m = m >> pure none

abbrev pub join : ℕ → ℕ → Emit ℕ
join g h = no_value (outside (ask g) >> emit g (act.Join h))

abbrev pub assert : Place → ℕ → ℕ → Emit ℕ
assert p g v = no_value (unless g v >>= (λ z. fail z p))

abbrev pub assume : ℕ → ℕ → Emit ℕ
assume g v = no_value (unless g v >>= stop)

abbrev pub builtin_call : Setting → Place → Builtin → List Piece → ℕ → Emit ℕ
builtin_call s p b.PthreadCreate args g = do
  cs ← (argument args 0).find g
  arg ← (argument args 3).run g
  create g cs (function_in s (argument args 2).spelled) arg
builtin_call s p b.PthreadJoin args g = (argument args 0).run g >>= join g
builtin_call s p b.PthreadExit args g = (argument args 0).run g >> no_value (exit_thread g)
builtin_call s p b.Exit args g = (argument args 0).run g >> no_value (stop g)
builtin_call s p b.Abort args g = no_value (stop g)
builtin_call s p b.Lock args g = (argument args 0).find g >>= (λ cs. no_value (lock_cells g cs))
builtin_call s p b.Unlock args g = (argument args 0).find g >>= (λ cs. no_value (unlock_cells g cs))
builtin_call s p b.Init args g = (argument args 0).find g >>= (λ cs. no_value (unlock_cells g cs))
builtin_call s p b.Destroy args g = (argument args 0).find g >> pure none
builtin_call s p b.Assert args g = (argument args 0).run g >>= assert p g
builtin_call s p b.Assume args g = (argument args 0).run g >>= assume g
builtin_call s p b.AssertFail args g = no_value (fail g p)
builtin_call s p b.ReachError args g = no_value (fail g p)
builtin_call s p b.AnyInt args g = any g
builtin_call s p b.AnyUint args g = any g
builtin_call s p b.AnyBool args g = any_bool g
builtin_call s p b.Begin args g = no_value (begin_section g)
builtin_call s p b.Finish args g = no_value end_section
builtin_call s p b.Synchronize args g = no_value (emit g act.Fence)

-- ---- calls

abbrev pub call_builtin : Setting → Place → Option Builtin → List Piece → ℕ → Emit ℕ
call_builtin s p None args g = no_value (stop g)
call_builtin s p (Some c) args g = builtin_call s p c args g

-- the locals of arguments, from left to right, behind those that are there already
abbrev pub values_of : List ℕ → List Piece → ℕ → Emit (List ℕ)
values_of done [] g = pure done
values_of done (m ∷ ms) g = m.run g >>= (λ v. values_of (done ++ v ∷ []) ms g)

-- a function with a body comes before a built-in call of its name
abbrev pub call : Context → Place → Name → List Piece → Option ℕ → ℕ → Emit ℕ
call cx p name args (Some f) g = values_of [] args g >>= (λ vs. cx.call f vs g)
call cx p name args None g = call_builtin cx.setting p (builtin_named name) args g

-- ---- the forms

abbrev pub expr_step : Context → Expr-F Piece → Piece
expr_step cx (Expr-F.Name p n) = lvalue (Some n) (name_unsigned cx.setting.shared n) (λ g. find_cells cx.setting.shared p n g None)
expr_step cx (Expr-F.Number p v u) = value (λ vs. u) (λ g. number v)
expr_step cx (Expr-F.Text p) = value int (λ g. pure none)
expr_step cx (Expr-F.Bracket p e) = e
expr_step cx (Expr-F.Index p n i) = lvalue None (name_unsigned cx.setting.shared n) (λ g. i.run g >>= (λ v. find_cells cx.setting.shared p n g (Some v)))
expr_step cx (Expr-F.Call p n args) = value (λ vs. result_unsigned cx.setting n (function_named cx.setting n)) (call cx p n args (function_named cx.setting n))
expr_step cx (Expr-F.Cast p w e) = value (λ vs. word_unsigned w) e.run
expr_step cx (Expr-F.Unary p o e) = value (λ vs. unary_unsigned o (e.unsigned vs)) (λ g. e.run g >>= (λ v. set g (unary_op o) (v ∷ [])))
expr_step cx (Expr-F.StepBefore p o l) = value l.unsigned (λ g. count p o l g >>= (λ vs. pure vs.1))
expr_step cx (Expr-F.StepAfter p o l) = value l.unsigned (λ g. count p o l g >>= (λ vs. pure vs.0))
expr_step cx (Expr-F.Binary p o l r) = value (λ vs. binary_unsigned o (l.unsigned vs) (r.unsigned vs)) (binary_run p o l r)
expr_step cx (Expr-F.Choose p t l r) = value (λ vs. l.unsigned vs || r.unsigned vs) (choose t l r)
expr_step cx (Expr-F.Assign p o l e) = value l.unsigned (assign p o l e)
expr_step cx (Expr-F.Comma p l r) = value r.unsigned (λ g. l.run g >> r.run g)
expr_step cx (Expr-F.Address p l) = record { run = λ g. pure none; find = l.find; unsigned = l.unsigned; spelled = l.spelled }

abbrev pub piece : Context → Expr → Piece
piece cx = fold-Expr Piece (expr_step cx)

abbrev pub eval : Context → Expr → ℕ → Emit ℕ
eval cx e g = (piece cx e).run g
