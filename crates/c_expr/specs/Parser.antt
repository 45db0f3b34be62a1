-- What the parser's own types stand for, and what it answers.
use Rattle.std.specs.Prelude.{◌≡◌, ℕ, ◌≤◌, List, [], ◌∷◌, reverse, drop, length, Option, Some, None, Result, Err, IfOk, IfErr}
use Rattle.dg_base.specs.declared.Place.{Place}
use Rattle.dg_base.specs.declared.refusal.Refusal.{Refusal}
use Rattle.dg_base.specs.declared.refusal.Refusal.TheVariants.{Syntax, OutOfMemory}
use Rattle.token_list.specs.declared.Token.{Token}
use Rattle.token_list.specs.declared.Tokens.{Tokens}
use Rattle.c_tree.specs.declared.expr.Expr.{Expr}
use Rattle.c_expr.specs.declared.frame.Frame.{Frame}
use Rattle.c_expr.specs.declared.frame.Frame.TheVariants.{AfterOperator, AfterTest, AfterAssign, AfterComma}
use Rattle.c_expr.specs.declared.frame.Reading.{Reading}
use Rattle.c_expr.specs.declared.frame.Reading.TheVariants as reading
use Rattle.c_expr.specs.declared.frame.Stepped.{Stepped}
use Rattle.c_expr.specs.declared.frame.Stepped.TheVariants as stepped
use Rattle.c_expr.specs.declared.frame.Opening.{Opening}
use Rattle.c_expr.specs.declared.frame.Opening.TheVariants as opening
use Rattle.c_expr.specs.declared.form.ExprForm.{ExprForm}
use Rattle.c_expr.specs.declared.form.ExprForm.TheVariants as form
use Rattle.c_expr.specs.Expressions.{Parses, Refuses}
use Rattle.c_expr.specs.Machine.{State, Want, Named, Have, Texts, Typed, Next, Go, Stop, finish}

-- The machine's state: the parser's stack has its topmost node last.
abbrev pub seen : Reading → List Frame → State
seen reading.Operand stack = Want (reverse stack)
seen (reading.Name p c) stack = Named p c (reverse stack)
seen (reading.Read x) stack = Have x (reverse stack)
seen (reading.Texts p) stack = Texts p (reverse stack)
seen (reading.Type p k more) stack = Typed p k more (reverse stack)

-- The parser does what the machine does, and where that stops it tells what has been read.
abbrev pub StepGives : Stepped → List Frame → Next → State → Type 0
StepGives (stepped.Go r) stack next old = next ≡ Go (seen r stack)
StepGives (stepped.Stop done) stack next old = (next ≡ Stop) × (finish old ≡ done)

-- the level of a form
abbrev pub form_level : ExprForm → ℕ
form_level form.Expr = 0
form_level form.Assign = 1
form_level form.Cond = 2

-- a node, with its first part
abbrev pub opened : Opening → Place → Expr → Frame
opened (opening.Operator o) p x = AfterOperator p o x
opened opening.Test p x = AfterTest p x
opened (opening.Assign o) p x = AfterAssign p o x
opened opening.Comma p x = AfterComma p x

-- where the first of these tokens stands, or the text's end
abbrev pub place_of : List Token → Place → Place
place_of [] end = end
place_of (t ∷ ts) end = t.place

-- The tree, and the number of the token behind the longest run from `at` with which some text of level f begins.
abbrev pub Finds : ℕ → ℕ → Tokens → ℕ → Expr → ℕ → Type 0
Finds f n tokens at x next = (at ≤ next) × (next ≤ length tokens.list) × Parses f n (drop at tokens.list) x (drop next tokens.list)

-- A refusal of the text has its cause: the longest run is no text, and the place is that of the token behind it.
abbrev pub HasCause : ℕ → ℕ → Tokens → ℕ → Refusal → Type 0
HasCause f n tokens at (Syntax place) =
    (next : ℕ) × (at ≤ next) × (next ≤ length tokens.list) × Refuses f n (drop at tokens.list) (drop next tokens.list) × (place ≡ place_of (drop next tokens.list) tokens.end)
HasCause f n tokens at OutOfMemory = Unit {0}
HasCause f n tokens at _ = ⊥

-- the tree and the number of the token behind it, or the refusal at the place where the run ends
abbrev pub Answers : Option Expr → ℕ → Place → Result (Expr × ℕ) Refusal → Type 0
Answers (Some x) next place r = IfOk r (λ a. a ≡ (x, next)) × IfErr r (λ e. e ≡ OutOfMemory)
Answers None next place r = r ≡ Err (Syntax place)
