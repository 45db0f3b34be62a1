-- What expressions mean, each from what its parts mean.
use Rattle.std.specs.Prelude.{ℕ, List, [], ◌∷◌, Bool, true, false, cond, ◌&&◌, ◌||◌, Option, Some, None, nat_eq, map, slice_get}
use Rattle.dg_base.specs.declared.Place.{Place}
use Rattle.dg_base.specs.Values.{value_of, is_true, truth_of}
use Rattle.c_tree.specs.declared.expr.StepOp.{StepOp}
use Rattle.c_tree.specs.declared.expr.BinaryOp.{BinaryOp}
use Rattle.c_tree.specs.declared.expr.AssignOp.{AssignOp}
use Rattle.c_tree.specs.declared.expr.AssignOp.TheVariants.{Plain, With}
use Rattle.c_tree.specs.declared.expr.Expr.{Expr, fold-Expr}
use Rattle.c_tree.specs.declared.expr.Expr.TheOpen.{Expr-F}
use Rattle.c_tree.specs.declared.program.Function.{Function}
use Rattle.c_tree.specs.Operators.{word_unsigned, unary_op, unary_unsigned, binary_op, binary_unsigned, divides, settles, step_op}
use Rattle.c_rules.specs.declared.builtin.Builtin.{Builtin}
use Rattle.c_rules.specs.declared.builtin.Builtin.TheVariants.{AnyUint}
use Rattle.c_rules.specs.Names.{Name, builtin_named}
use Rattle.run_model.specs.declared.state.Slot.{Slot}
use Rattle.run_model.specs.Steps.{State, Step, ◌>>=◌, ◌>>◌, pure, look, fail, stop, in_turn}
use Rattle.run_model.specs.Cells.{read, write, slot, name_unsigned}
use Rattle.run_model.specs.Calls.{Meaning, Setting, Context, function_named, builtin_call}

-- what names no cell
abbrev pub no_cell : Step Slot
no_cell = stop

-- an expression that is no lvalue and no name
abbrev pub value : (State → Bool) → Step ℕ → Meaning
value unsigned run = record { run = run; find = no_cell; unsigned = unsigned; spelled = None }

-- what names a cell; its value is read there
abbrev pub lvalue : Option Name → (State → Bool) → Step Slot → Meaning
lvalue spelled unsigned find = record { run = find >>= read; find = find; unsigned = unsigned; spelled = spelled }

-- the type Int
abbrev pub int : State → Bool
int s = false

-- an operator on two values, which fails at its place where it divides by 0; u and w say that the operands are Uint
abbrev pub operate : Place → BinaryOp → Bool → Bool → ℕ → ℕ → Step ℕ
operate p o u w a b = cond (divides o && nat_eq b 0) (fail p) (pure (value_of (binary_op o u w) (a ∷ b ∷ [])))

-- both operands from left to right, but the right one of `&&` and `||` only where the left one does not settle the value
abbrev pub binary : Place → BinaryOp → Meaning → Meaning → Step ℕ
binary p o a b = do
  x ← a.run
  cond (settles o x) (pure (truth_of (is_true x))) (do
    y ← b.run
    u ← look a.unsigned
    w ← look b.unsigned
    operate p o u w x y)

-- `l = e` and `l op= e`: the cell of l, its old value where there is an operator, then e, then the write
abbrev pub assign : Place → AssignOp → Meaning → Meaning → Step ℕ
assign p Plain l e = do
  c ← l.find
  v ← e.run
  write c v
  pure v
assign p (With o) l e = do
  c ← l.find
  old ← read c
  v ← e.run
  u ← look l.unsigned
  w ← look e.unsigned
  new ← operate p o u w old v
  write c new
  pure new

-- `++` and `--`, with the value before and behind
abbrev pub count : Place → StepOp → Meaning → Step (ℕ × ℕ)
count p o l = do
  c ← l.find
  old ← read c
  u ← look l.unsigned
  new ← operate p (step_op o) u false old 1
  write c new
  pure (old, new)

-- ---- calls

abbrev pub is_uint_builtin : Option Builtin → Bool
is_uint_builtin (Some AnyUint) = true
is_uint_builtin _ = false

abbrev pub returns_unsigned : Option Function → Bool
returns_unsigned None = false
returns_unsigned (Some f) = word_unsigned f.word

-- whether a call's value is Uint: a function's by its type, of the built-in calls that of `__VERIFIER_nondet_uint` alone
abbrev pub result_unsigned : Setting → Name → Option ℕ → Bool
result_unsigned g name (Some f) = returns_unsigned (slice_get g.functions f)
result_unsigned g name None = is_uint_builtin (builtin_named name)

-- a call that is no function's with a body
abbrev pub call_builtin : Setting → Place → Name → Option Builtin → List Meaning → Step ℕ
call_builtin g p name None args = g.other name args
call_builtin g p name (Some b) args = builtin_call g p b args

-- the evaluations of arguments
abbrev pub runs_of : List Meaning → List (Step ℕ)
runs_of ms = map (λ (m : Meaning). m.run) ms

-- a function with a body comes before a built-in call of its name; its arguments are evaluated from left to right
abbrev pub call : Context → Place → Name → List Meaning → Option ℕ → Step ℕ
call cx p name args (Some f) = in_turn [] (runs_of args) >>= cx.call f
call cx p name args None = call_builtin cx.setting p name (builtin_named name) args

-- ---- the forms

-- an expression's meaning, from the meanings of its parts
abbrev pub expr_step : Context → Expr-F Meaning → Meaning
expr_step cx (Expr-F.Name p n) = lvalue (Some n) (name_unsigned cx.setting.shared n) (slot cx.setting.shared p n 0)
expr_step cx (Expr-F.Number p v u) = value (λ s. u) (pure v)
expr_step cx (Expr-F.Text p) = value int (pure 0)
expr_step cx (Expr-F.Bracket p e) = e
expr_step cx (Expr-F.Index p n i) = lvalue None (name_unsigned cx.setting.shared n) (i.run >>= slot cx.setting.shared p n)
expr_step cx (Expr-F.Call p n args) = value (λ s. result_unsigned cx.setting n (function_named cx.setting n)) (call cx p n args (function_named cx.setting n))
expr_step cx (Expr-F.Cast p w e) = value (λ s. word_unsigned w) e.run
expr_step cx (Expr-F.Unary p o e) = value (λ s. unary_unsigned o (e.unsigned s)) (do
  v ← e.run
  pure (value_of (unary_op o) (v ∷ [])))
expr_step cx (Expr-F.StepBefore p o l) = value l.unsigned (do
  values ← count p o l
  pure values.1)
expr_step cx (Expr-F.StepAfter p o l) = value l.unsigned (do
  values ← count p o l
  pure values.0)
expr_step cx (Expr-F.Binary p o a b) = value (λ s. binary_unsigned o (a.unsigned s) (b.unsigned s)) (binary p o a b)
expr_step cx (Expr-F.Choose p t a b) = value (λ s. a.unsigned s || b.unsigned s) (do
  x ← t.run
  cond (is_true x) a.run b.run)
expr_step cx (Expr-F.Assign p o l e) = value l.unsigned (assign p o l e)
expr_step cx (Expr-F.Comma p a b) = value b.unsigned (a.run >> b.run)
expr_step cx (Expr-F.Address p l) = record { run = pure 0; find = l.find; unsigned = l.unsigned; spelled = l.spelled }

abbrev pub meaning : Context → Expr → Meaning
meaning cx = fold-Expr Meaning (expr_step cx)

-- an expression's evaluation
abbrev pub eval : Context → Expr → Step ℕ
eval cx e = (meaning cx e).run
