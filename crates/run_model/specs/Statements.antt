-- What statements and declarations mean, each from what its parts mean.
use Rattle.std.specs.Prelude.{ℕ, zero, suc, ◌+◌, List, [], ◌∷◌, ◌++◌, cond, Option, Some, None, length, map, replicate, take}
use Rattle.dg_base.specs.declared.Place.{Place}
use Rattle.dg_base.specs.Values.{is_true}
use Rattle.c_tree.specs.declared.expr.TypeWord.{TypeWord}
use Rattle.c_tree.specs.declared.expr.TypeWord.TheVariants as type
use Rattle.c_tree.specs.declared.expr.Expr.{Expr}
use Rattle.c_tree.specs.declared.stmt.Initialiser.{Initialiser}
use Rattle.c_tree.specs.declared.stmt.Initialiser.TheVariants.{One, Braces}
use Rattle.c_tree.specs.declared.stmt.Declarator.{Declarator}
use Rattle.c_tree.specs.declared.stmt.Start.{Start}
use Rattle.c_tree.specs.declared.stmt.Start.TheVariants as start
use Rattle.c_tree.specs.declared.stmt.Stmt.{Stmt, fold-Stmt}
use Rattle.c_tree.specs.declared.stmt.Stmt.TheOpen.{Stmt-F}
use Rattle.c_tree.specs.Operators.{word_unsigned}
use Rattle.c_rules.specs.Names.{Name}
use Rattle.c_check.specs.Limits.{cell_count}
use Rattle.run_model.specs.declared.state.Flow.{Flow}
use Rattle.run_model.specs.declared.state.Flow.TheVariants.{Next, Broke, Continued, Returned}
use Rattle.run_model.specs.declared.state.Need.TheVariants.{Any}
use Rattle.run_model.specs.declared.state.Slot.TheVariants.{Own}
use Rattle.run_model.specs.Steps.{Step, ◌>>=◌, ◌>>◌, pure, nothing, look, change, take_number}
use Rattle.run_model.specs.Cells.{write}
use Rattle.run_model.specs.Calls.{Context, spend}
use Rattle.run_model.specs.Meaning.{eval}

-- goes on where a statement came to its end
abbrev pub then_next : Flow → Step Flow → Step Flow
then_next Next m = m
then_next f m = pure f

-- one statement after the other
abbrev pub sequence : List (Step Flow) → Step Flow
sequence [] = pure Next
sequence (m ∷ ms) = m >>= (λ f. then_next f (sequence ms))

-- the variables declared inside are gone behind it
abbrev pub scoped : Step Flow → Step Flow
scoped m = do
  n ← look (λ s. length s.locals)
  f ← m
  change (λ s. record s { locals = take n s.locals })
  pure f

-- ---- loops

-- how a loop is left behind its body, if it is
abbrev pub leaves : Flow → Option Flow
leaves Next = None
leaves Continued = None
leaves Broke = Some Next
leaves (Returned v) = Some (Returned v)

abbrev pub unless_left : Option Flow → Step Flow → Step Flow
unless_left None more = more
unless_left (Some f) more = pure f

-- what follows a loop's body
abbrev pub after_body : Flow → Step Flow → Step Flow
after_body f more = unless_left (leaves f) more

-- the body at most so many times; where the test still holds after that, the bound is spent
abbrev pub loop : Step Flow → ℕ → Step ℕ → Step Flow → Step (Unit {0}) → Step Flow
loop spent zero test body step = do
  v ← test
  cond (is_true v) spent (pure Next)
loop spent (suc n) test body step = do
  v ← test
  cond (is_true v) (body >>= (λ f. after_body f (step >> loop spent n test body step))) (pure Next)

-- the same for a loop whose test stands behind its body
abbrev pub do_loop : Step Flow → ℕ → Step ℕ → Step Flow → Step Flow
do_loop spent zero test body = spent
do_loop spent (suc n) test body = body >>= (λ f. after_body f (do
  v ← test
  cond (is_true v) (do_loop spent n test body) (pure Next)))

-- ---- declarations

-- what is stored in a local's first cells: without initialiser a number is taken per cell, but a pthread_t is 0
abbrev pub first_values : Context → TypeWord → ℕ → Option Initialiser → List (Step ℕ)
first_values cx type.Thread n None = []
first_values cx w n None = replicate n (take_number Any)
first_values cx w n (Some (One e)) = eval cx e ∷ []
first_values cx w n (Some (Braces es)) = map (eval cx) es

-- values are stored from the cell j of a local on, each before the next is evaluated
abbrev pub store_from : ℕ → ℕ → List (Step ℕ) → Step (Unit {0})
store_from l j [] = nothing
store_from l j (m ∷ ms) = do
  v ← m
  write (Own l j) v
  store_from l (j + 1) ms

-- a new local, with all cells 0; it is in scope from here on
abbrev pub enter : TypeWord → Name → ℕ → Step (Unit {0})
enter w name n = change (λ s. record s { locals = s.locals ++ record { name = name; unsigned = word_unsigned w; cells = replicate n 0 } ∷ [] })

abbrev pub declare_one : Context → TypeWord → Declarator → Step (Unit {0})
declare_one cx w d = do
  l ← look (λ s. length s.locals)
  enter w d.name (cell_count d)
  store_from l 0 (first_values cx w (cell_count d) d.initialiser)

abbrev pub one_by_one : List (Step (Unit {0})) → Step (Unit {0})
one_by_one [] = nothing
one_by_one (m ∷ ms) = m >> one_by_one ms

abbrev pub declare_all : Context → TypeWord → List Declarator → Step (Unit {0})
declare_all cx w ds = one_by_one (map (declare_one cx w) ds)

-- ---- the forms

-- an expression that may be left out, and the value that stands for it then
abbrev pub eval_if : Context → ℕ → Option Expr → Step ℕ
eval_if cx other None = pure other
eval_if cx other (Some e) = eval cx e

-- the statement behind an `else`, if there is one
abbrev pub if_any : Option (Step Flow) → Step Flow
if_any None = pure Next
if_any (Some m) = scoped m

abbrev pub begin_for : Context → Start → Step (Unit {0})
begin_for cx start.Nothing = nothing
begin_for cx (start.Expr e) = eval cx e >> nothing
begin_for cx (start.Declare d) = declare_all cx d.word d.declarators

-- a loop with its test before the body; a `for` without a test is one whose test holds
abbrev pub turns : Context → Place → Option Expr → Option Expr → Step Flow → Step Flow
turns cx p t e m = loop (spend cx.setting p) cx.setting.turns (eval_if cx 1 t) (scoped m) (eval_if cx 0 e >> nothing)

-- A statement's meaning, from the meanings of its parts. A statement that is part of another one is a scope of its own.
abbrev pub stmt_step : Context → Stmt-F (Step Flow) → Step Flow
stmt_step cx (Stmt-F.Empty p) = pure Next
stmt_step cx (Stmt-F.Expr p e) = eval cx e >> pure Next
stmt_step cx (Stmt-F.Declare d) = declare_all cx d.word d.declarators >> pure Next
stmt_step cx (Stmt-F.Block p ms) = scoped (sequence ms)
stmt_step cx (Stmt-F.Label p n m) = scoped m
stmt_step cx (Stmt-F.If p t a b) = do
  v ← eval cx t
  cond (is_true v) (scoped a) (if_any b)
stmt_step cx (Stmt-F.While p t m) = turns cx p (Some t) None m
stmt_step cx (Stmt-F.DoWhile p m t) = do_loop (spend cx.setting p) cx.setting.turns (eval cx t) (scoped m)
stmt_step cx (Stmt-F.For p first t e m) = scoped (begin_for cx first >> turns cx p t e m)
stmt_step cx (Stmt-F.Return p e) = do
  v ← eval_if cx 0 e
  pure (Returned v)
stmt_step cx (Stmt-F.Break p) = pure Broke
stmt_step cx (Stmt-F.Continue p) = pure Continued

abbrev pub execute : Context → Stmt → Step Flow
execute cx = fold-Stmt (Step Flow) (stmt_step cx)

-- the statements of a block in turn
abbrev pub execute_all : Context → List Stmt → Step Flow
execute_all cx ss = sequence (map (execute cx) ss)
