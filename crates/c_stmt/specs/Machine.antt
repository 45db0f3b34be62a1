-- The parser as a machine: the items that are whole, a stack of statements that are not, the innermost first, a position,
-- and one step for each token, or for an expression and the token behind it.
use Rattle.std.specs.Prelude.{◌≡◌, Option, Some, None, ℕ, zero, suc, ◌+◌, ◌≤◌, ◌⊎◌, Bool, true, false, not, nat_le, if◌then◌else◌, List, [], ◌∷◌, ◌++◌, length, reverse}
use Rattle.dg_base.specs.declared.Place.{Place}
use Rattle.dg_base.specs.declared.refusal.Refusal.{Refusal}
use Rattle.dg_base.specs.declared.refusal.Refusal.TheVariants.{Syntax}
use Rattle.token_list.specs.declared.Token.{Token}
use Rattle.token_list.specs.declared.Tokens.{Tokens}
use Rattle.c_tree.specs.declared.expr.TypeWord.{TypeWord}
use Rattle.c_tree.specs.declared.expr.TypeWord.TheVariants as type
use Rattle.c_tree.specs.declared.expr.AssignOp.TheVariants as assignment
use Rattle.c_tree.specs.declared.expr.Expr.{Expr, fold-Expr}
use Rattle.c_tree.specs.declared.expr.Expr.TheOpen.{Expr-F}
use Rattle.c_tree.specs.declared.stmt.Initialiser.{Initialiser}
use Rattle.c_tree.specs.declared.stmt.Initialiser.TheVariants as i
use Rattle.c_tree.specs.declared.stmt.Declarator.{Declarator}
use Rattle.c_tree.specs.declared.stmt.Decl.{Decl}
use Rattle.c_tree.specs.declared.stmt.Start.{Start}
use Rattle.c_tree.specs.declared.stmt.Start.TheVariants as start
use Rattle.c_tree.specs.declared.stmt.Stmt.{Stmt}
use Rattle.c_tree.specs.declared.stmt.Stmt.TheVariants as tree
use Rattle.c_tree.specs.declared.program.Param.{Param}
use Rattle.c_tree.specs.declared.program.Function.{Function}
use Rattle.c_tree.specs.declared.program.Item.{Item}
use Rattle.c_tree.specs.declared.program.Item.TheVariants as item
use Rattle.c_tree.specs.declared.program.Program.{Program}
use Rattle.c_expr.specs.declared.form.ExprForm.{ExprForm}
use Rattle.c_expr.specs.declared.form.ExprForm.TheVariants as form
use Rattle.c_expr.specs.declared.word.TypeName.{TypeName}
use Rattle.c_expr.specs.declared.word.Keyword.{Keyword}
use Rattle.c_expr.specs.declared.word.Keyword.TheVariants as kw
use Rattle.c_expr.specs.declared.word.Word.{Word}
use Rattle.c_expr.specs.declared.word.Word.TheVariants as w
use Rattle.c_expr.specs.Words.{word_of}
use Rattle.c_expr.specs.Parser as expr
use Rattle.c_expr.specs.TypeWords.{first_word, may_grow, grown}
use Rattle.c_stmt.specs.declared.state.Frame.{Frame}
use Rattle.c_stmt.specs.declared.state.Frame.TheVariants.{InFunction, InBlock, AfterLabel, AfterIf, AfterElse, AfterWhile, AfterDo, AfterFor}
use Rattle.c_stmt.specs.declared.state.Site.{Site}
use Rattle.c_stmt.specs.declared.state.Site.TheVariants as site
use Rattle.c_stmt.specs.declared.state.Tested.{Tested}
use Rattle.c_stmt.specs.declared.state.Tested.TheVariants as tested
use Rattle.c_stmt.specs.declared.state.Head.{Head}
use Rattle.c_stmt.specs.declared.state.Params.{Params}
use Rattle.c_stmt.specs.declared.state.Params.TheVariants as params
use Rattle.c_stmt.specs.declared.state.Position.{Position}
use Rattle.c_stmt.specs.declared.state.Position.TheVariants as at
use Rattle.c_stmt.specs.declared.state.Read.{Read}
use Rattle.c_stmt.specs.declared.state.Stepped.{Stepped}
use Rattle.c_stmt.specs.declared.state.Stepped.TheVariants as stepped

-- the items, the stack and the position
pub data State : Type 0 where
  At : List Item → List Frame → Position → State

-- the token is read; or an expression of this form is to be read first, below so many nodes; or the token is refused
pub data Move : Type 0 where
  Go : State → Move
  Ask : State → ExprForm → ℕ → Move
  Stop : Move

abbrev pub if_so : Bool → Move → Move
if_so b m = if b then m else Stop

-- the nodes above an expression of a statement, that statement among them: a function is two nodes
abbrev pub above_part : List Frame → ℕ
above_part s = length s + 2

-- the nodes above an expression of a declarator, the declarator among them
abbrev pub above_declared : Site → List Frame → ℕ
above_declared site.Item s = 1
above_declared site.Block s = length s + 2
above_declared (site.For p) s = length s + 3

-- an expression below so many nodes, where these fit
abbrev pub asks : ExprForm → ℕ → State → Move
asks f above state = if_so (nat_le above 200) (Ask state f above)

-- a declaration begins, where a declarator fits
abbrev pub type_begins : Site → TypeName → List Item → List Frame → Move
type_begins place k xs s = if_so (nat_le (above_declared place s) 200) (Go (At xs s (at.Typed place (first_word k) (may_grow k))))

abbrev pub with_declarator : Decl → Declarator → Decl
with_declarator d e = record { word = d.word; declarators = d.declarators ++ e ∷ [] }

abbrev pub declarator_of : Place → List ℕ → Option Expr → Declarator
declarator_of p c size = record { place = p; name = c; size = size; initialiser = None }

abbrev pub with_initialiser : Declarator → Initialiser → Declarator
with_initialiser e x = record { place = e.place; name = e.name; size = e.size; initialiser = Some x }

-- a declaration is whole
abbrev pub ended : Site → Decl → List Item → List Frame → State
ended site.Item d xs s = At (xs ++ item.Shared d ∷ []) s at.Top
ended site.Block d xs s = At xs s (at.Whole (tree.Declare d))
ended (site.For p) d xs s = At xs s (at.ForTest p (start.Declare d))

-- a token between items
abbrev pub top : Word → List Item → List Frame → Move
top (w.Keyword kw.Static) xs s = Go (At xs s at.Static)
top (w.Type j) xs s = type_begins site.Item j xs s
top _ xs s = Stop

abbrev pub behind_static : Word → List Item → List Frame → Move
behind_static (w.Type j) xs s = type_begins site.Item j xs s
behind_static _ xs s = Stop

abbrev pub grows : Site → Option TypeWord → List Item → List Frame → Move
grows place None xs s = Stop
grows place (Some k) xs s = Go (At xs s (at.Typed place k false))

-- a token behind words of a type
abbrev pub typed : Word → Token → Site → TypeWord → Bool → List Item → List Frame → Move
typed w.Name t place k more xs s = Go (At xs s (at.First place k t.place t.text))
typed v t place k more xs s = if_so more (grows place (grown v k) xs s)

-- a token behind a declarator that is whole
abbrev pub valued : Word → Site → Decl → Declarator → List Item → List Frame → Move
valued w.Comma place d e xs s = Go (At xs s (at.Next place (with_declarator d e)))
valued w.Semicolon place d e xs s = Go (ended place (with_declarator d e) xs s)
valued _ place d e xs s = Stop

-- a token behind a declarator's size
abbrev pub sized : Word → Site → Decl → Declarator → List Item → List Frame → Move
sized (w.Assign assignment.Plain) place d e xs s = Go (At xs s (at.Value place d e))
sized v place d e xs s = valued v place d e xs s

-- a token behind a declarator's name
abbrev pub named : Word → Site → Decl → Place → List ℕ → List Item → List Frame → Move
named w.LeftSquare place d p c xs s = Go (At xs s (at.Size place d p c))
named v place d p c xs s = sized v place d (declarator_of p c None) xs s

-- the `(` behind a first name
abbrev pub heads : Site → TypeWord → Place → List ℕ → List Item → List Frame → Move
heads site.Item k p c xs s = Go (At xs s (at.Heading (record { place = p; word = k; name = c }) 0 params.Nothing))
heads _ k p c xs s = Stop

-- a token behind a first name
abbrev pub first : Word → Site → TypeWord → Place → List ℕ → List Item → List Frame → Move
first w.Left place k p c xs s = heads place k p c xs s
first v place k p c xs s = named v place (record { word = k; declarators = [] }) p c xs s

-- a token behind a comma between declarators
abbrev pub next : Word → Token → Site → Decl → List Item → List Frame → Move
next w.Name t place d xs s = Go (At xs s (at.Named place d t.place t.text))
next _ t place d xs s = Stop

-- a token behind the `=` of an initialiser
abbrev pub value : Word → Site → Decl → Declarator → List Item → List Frame → Move
value w.LeftBrace place d e xs s = Go (At xs s (at.Values place d e []))
value _ place d e xs s = asks form.Assign (above_declared place s) (At xs s (at.Value place d e))

-- a token between an initialiser's braces
abbrev pub no_value : List Expr → Move → Move → Move
no_value [] m n = m
no_value (x ∷ vs) m n = n

abbrev pub values : Word → Site → Decl → Declarator → List Expr → List Item → List Frame → Move
values w.RightBrace place d e vs xs s = no_value vs Stop (Go (At xs s (at.Valued place d (with_initialiser e (i.Braces vs)))))
values _ place d e vs xs s = asks form.Assign (above_declared place s) (At xs s (at.Values place d e vs))

-- the parameters with one token more, which is no bracket
abbrev pub grown_parameter : List Param → Option TypeWord → Params
grown_parameter ps None = params.Never
grown_parameter ps (Some k) = params.Typed ps k false

abbrev pub typed_parameter : Word → Token → List Param → TypeWord → Bool → Params
typed_parameter w.Name t ps k more = params.Whole (ps ++ record { place = t.place; word = k; name = t.text } ∷ [])
typed_parameter v t ps k true = grown_parameter ps (grown v k)
typed_parameter v t ps k false = params.Never

abbrev pub first_parameter : Word → List Param → Params
first_parameter (w.Type k) ps = params.Typed ps (first_word k) (may_grow k)
first_parameter _ ps = params.Never

abbrev pub comma_parameter : Word → List Param → Params
comma_parameter w.Comma ps = params.Next ps
comma_parameter _ ps = params.Never

abbrev pub parameter : Word → Token → Params → Params
parameter v t params.Nothing = first_parameter v []
parameter v t (params.Typed ps k more) = typed_parameter v t ps k more
parameter v t (params.Whole ps) = comma_parameter v ps
parameter v t (params.Next ps) = first_parameter v ps
parameter v t params.Never = params.Never

-- the parameters of a header that ends here; `void` alone is none
abbrev pub void_alone : List Param → TypeWord → Bool → Option (List Param)
void_alone [] type.Void true = Some []
void_alone _ _ _ = None

abbrev pub parameters : Params → Option (List Param)
parameters params.Nothing = Some []
parameters (params.Typed ps k more) = void_alone ps k more
parameters (params.Whole ps) = Some ps
parameters (params.Next ps) = None
parameters params.Never = None

-- a `)` in a header
abbrev pub header_closes : Head → ℕ → Params → List Item → List Frame → Move
header_closes h zero ps xs s = Go (At xs s (at.Headed h (parameters ps)))
header_closes h (suc d) ps xs s = Go (At xs s (at.Heading h d ps))

-- a token in a header
abbrev pub heading : Word → Token → Head → ℕ → Params → List Item → List Frame → Move
heading w.Left t h d ps xs s = Go (At xs s (at.Heading h (suc d) params.Never))
heading w.Right t h d ps xs s = header_closes h d ps xs s
heading w.Semicolon t h d ps xs s = Stop
heading w.LeftBrace t h d ps xs s = Stop
heading w.RightBrace t h d ps xs s = Stop
heading v t h d ps xs s = Go (At xs s (at.Heading h d (parameter v t ps)))

abbrev pub function_begins : Head → Option (List Param) → List Item → List Frame → Move
function_begins h None xs s = Stop
function_begins h (Some ps) xs s = Go (At xs (InFunction (record { place = h.place; word = h.word; name = h.name; params = ps; body = [] }) ∷ s) at.Begin)

-- a token behind a header
abbrev pub headed : Word → Head → Option (List Param) → List Item → List Frame → Move
headed w.LeftBrace h ps xs s = function_begins h ps xs s
headed w.Semicolon h ps xs s = Go (At (xs ++ item.Prototype h.place h.word h.name ∷ []) s at.Top)
headed _ h ps xs s = Stop

-- whether a declaration or a `}` may come
abbrev pub in_block : List Frame → Bool
in_block (InFunction f ∷ s) = true
in_block (InBlock p ys ∷ s) = true
in_block _ = false

-- a `}` where a statement may begin
abbrev pub block_ends : List Item → List Frame → Move
block_ends xs (InFunction f ∷ s) = Go (At (xs ++ item.Function f ∷ []) s at.Top)
block_ends xs (InBlock p ys ∷ s) = Go (At xs s (at.Whole (tree.Block p ys)))
block_ends xs _ = Stop

-- room for a statement that is a node
abbrev pub has_room : List Frame → Bool
has_room s = nat_le (above_part s) 200

abbrev pub placed : List Item → List Frame → Position → Move
placed xs s position = if_so (has_room s) (Go (At xs s position))

abbrev pub pushed : List Item → List Frame → Frame → Move
pushed xs s f = if_so (has_room s) (Go (At xs (f ∷ s) at.Begin))

-- an expression of a statement
abbrev pub asks_part : List Item → List Frame → Position → Move
asks_part xs s position = asks form.Expr (above_part s) (At xs s position)

-- a word of statements where a statement may begin
abbrev pub keyword : Keyword → Place → List Item → List Frame → Move
keyword kw.If p xs s = placed xs s (at.BeforeTest (tested.If p))
keyword kw.While p xs s = placed xs s (at.BeforeTest (tested.While p))
keyword kw.Do p xs s = pushed xs s (AfterDo p)
keyword kw.For p xs s = placed xs s (at.BeforeStart p)
keyword kw.Return p xs s = placed xs s (at.Return p)
keyword kw.Break p xs s = placed xs s (at.Semicolon (tree.Break p))
keyword kw.Continue p xs s = placed xs s (at.Semicolon (tree.Continue p))
keyword kw.Else p xs s = Stop
keyword kw.Static p xs s = Stop

-- a token where a statement may begin
abbrev pub begin : Word → Token → List Item → List Frame → Move
begin w.Semicolon t xs s = Go (At xs s (at.Whole (tree.Empty t.place)))
begin w.RightBrace t xs s = block_ends xs s
begin w.LeftBrace t xs s = pushed xs s (InBlock t.place [])
begin (w.Keyword j) t xs s = keyword j t.place xs s
begin (w.Type j) t xs s = if_so (in_block s) (type_begins site.Block j xs s)
begin _ t xs s = asks_part xs s at.Begin

-- a whole statement and the statements that wait for it
pub record Held : Type 0 where
  pub tree : Stmt
  pub stack : List Frame

-- whether a statement that waits for its last part is whole with it; an `if` goes on where an `else` follows
abbrev pub closes : Bool → Frame → Bool
closes other (InFunction f) = false
closes other (InBlock p ys) = false
closes other (AfterLabel p c) = true
closes other (AfterIf p x) = not other
closes other (AfterElse p x y) = true
closes other (AfterWhile p x) = true
closes other (AfterDo p) = false
closes other (AfterFor p b x y) = true

-- the statement with its last part
abbrev pub filled : Frame → Stmt → Stmt
filled (InFunction f) y = y
filled (InBlock p ys) y = y
filled (AfterLabel p c) y = tree.Label p c y
filled (AfterIf p x) y = tree.If p x y None
filled (AfterElse p x z) y = tree.If p x z (Some y)
filled (AfterWhile p x) y = tree.While p x y
filled (AfterDo p) y = y
filled (AfterFor p b x z) y = tree.For p b x z y

-- with each statement that is whole; the flag says whether an `else` follows
abbrev pub close : Bool → Stmt → List Frame → Held
close other y [] = record { tree = y; stack = [] }
close other y (f ∷ s) = if closes other f then close other (filled f y) s else record { tree = y; stack = f ∷ s }

-- with any statement, none of those that wait is whole
abbrev pub StaysOpen : Bool → List Frame → Type 0
StaysOpen other s = (y : Stmt) → close other y s ≡ record { tree = y; stack = s }

abbrev pub is_else : Word → Bool
is_else (w.Keyword kw.Else) = true
is_else _ = false

abbrev pub with_statement : Function → Stmt → Function
with_statement f y = record { place = f.place; word = f.word; name = f.name; params = f.params; body = f.body ++ y ∷ [] }

-- a token behind the first branch of an `if`
abbrev pub behind_if : Word → Place → Expr → List Item → Stmt → List Frame → Move
behind_if (w.Keyword kw.Else) p x xs y s = Go (At xs (AfterElse p x y ∷ s) at.Begin)
behind_if _ p x xs y s = Stop

-- a token behind the statement of a `do`
abbrev pub behind_do : Word → Place → List Item → Stmt → List Frame → Move
behind_do (w.Keyword kw.While) p xs y s = Go (At xs s (at.BeforeTest (tested.Do p y)))
behind_do _ p xs y s = Stop

-- a token behind a statement with which none that waits is whole
abbrev pub behind_closed : Word → Token → List Item → Stmt → List Frame → Move
behind_closed v t xs y (InFunction f ∷ s) = begin v t xs (InFunction (with_statement f y) ∷ s)
behind_closed v t xs y (InBlock p ys ∷ s) = begin v t xs (InBlock p (ys ++ y ∷ []) ∷ s)
behind_closed v t xs y (AfterIf p x ∷ s) = behind_if v p x xs y s
behind_closed v t xs y (AfterDo p ∷ s) = behind_do v p xs y s
behind_closed v t xs y _ = Stop

-- a token behind a whole statement
abbrev pub behind : Word → Token → List Item → Stmt → List Frame → Move
behind v t xs y s = let h = close (is_else v) y s in behind_closed v t xs h.tree h.stack

abbrev pub left : Word → List Item → List Frame → Position → Move
left w.Left xs s position = Go (At xs s position)
left _ xs s position = Stop

abbrev pub semicolon : Word → List Item → List Frame → Stmt → Move
semicolon w.Semicolon xs s y = Go (At xs s (at.Whole y))
semicolon _ xs s y = Stop

abbrev pub for_start : Word → Place → List Item → List Frame → Move
for_start w.Semicolon p xs s = Go (At xs s (at.ForTest p start.Nothing))
for_start (w.Type j) p xs s = type_begins (site.For p) j xs s
for_start _ p xs s = asks_part xs s (at.ForStart p)

abbrev pub for_test : Word → Place → Start → List Item → List Frame → Move
for_test w.Semicolon p b xs s = Go (At xs s (at.ForStep p b None))
for_test _ p b xs s = asks_part xs s (at.ForTest p b)

abbrev pub for_step : Word → Place → Start → Option Expr → List Item → List Frame → Move
for_step w.Right p b x xs s = Go (At xs (AfterFor p b x None ∷ s) at.Begin)
for_step _ p b x xs s = asks_part xs s (at.ForStep p b x)

abbrev pub returns : Word → Place → List Item → List Frame → Move
returns w.Semicolon p xs s = Go (At xs s (at.Whole (tree.Return p None)))
returns _ p xs s = asks_part xs s (at.Return p)

-- one token of a statement
abbrev pub inside : Word → Token → State → Move
inside v t (At xs s at.Begin) = begin v t xs s
inside v t (At xs s (at.Whole y)) = behind v t xs y s
inside v t (At xs s (at.BeforeTest c)) = left v xs s (at.Test c)
inside v t (At xs s (at.Test c)) = asks_part xs s (at.Test c)
inside v t (At xs s (at.Semicolon y)) = semicolon v xs s y
inside v t (At xs s (at.BeforeStart p)) = left v xs s (at.ForStart p)
inside v t (At xs s (at.ForStart p)) = for_start v p xs s
inside v t (At xs s (at.ForTest p b)) = for_test v p b xs s
inside v t (At xs s (at.ForStep p b x)) = for_step v p b x xs s
inside v t (At xs s (at.Return p)) = returns v p xs s
inside v t _ = Stop

-- one token
abbrev pub step_by : Word → Token → State → Move
step_by v t (At xs s at.Top) = top v xs s
step_by v t (At xs s at.Static) = behind_static v xs s
step_by v t (At xs s (at.Typed place k more)) = typed v t place k more xs s
step_by v t (At xs s (at.First place k p c)) = first v place k p c xs s
step_by v t (At xs s (at.Next place d)) = next v t place d xs s
step_by v t (At xs s (at.Named place d p c)) = named v place d p c xs s
step_by v t (At xs s (at.Size place d p c)) = asks form.Cond (above_declared place s) (At xs s (at.Size place d p c))
step_by v t (At xs s (at.Sized place d e)) = sized v place d e xs s
step_by v t (At xs s (at.Value place d e)) = value v place d e xs s
step_by v t (At xs s (at.Values place d e vs)) = values v place d e vs xs s
step_by v t (At xs s (at.Valued place d e)) = valued v place d e xs s
step_by v t (At xs s (at.Heading h d ps)) = heading v t h d ps xs s
step_by v t (At xs s (at.Headed h ps)) = headed v h ps xs s
step_by v t state = inside v t state

abbrev pub step : Token → State → Move
step t state = step_by (word_of t) t state

-- the label that an expression before a `:` is, with its place
pub record Label : Type 0 where
  pub place : Place
  pub name : List ℕ

abbrev pub label_step : Expr-F (Option Label) → Option Label
label_step (Expr-F.Name p c) = Some (record { place = p; name = c })
label_step _ = None

unfoldable pub label_of : Expr → Option Label
label_of = fold-Expr (Option Label) label_step

abbrev pub labelled : Option Label → List Item → List Frame → Move
labelled None xs s = Stop
labelled (Some l) xs s = Go (At xs (AfterLabel l.place l.name ∷ s) at.Begin)

-- the token behind an expression statement that begins at the place
abbrev pub behind_expression : Word → Place → Expr → List Item → List Frame → Move
behind_expression w.Semicolon p x xs s = Go (At xs s (at.Whole (tree.Expr p x)))
behind_expression w.Colon p x xs s = labelled (label_of x) xs s
behind_expression _ p x xs s = Stop

abbrev pub behind_size : Word → Site → Decl → Place → List ℕ → Expr → List Item → List Frame → Move
behind_size w.RightSquare place d p c x xs s = Go (At xs s (at.Sized place d (declarator_of p c (Some x))))
behind_size _ place d p c x xs s = Stop

abbrev pub behind_value : Word → Site → Decl → Declarator → Expr → List Item → List Frame → Move
behind_value v place d e x xs s = valued v place d (with_initialiser e (i.One x)) xs s

abbrev pub behind_values : Word → Site → Decl → Declarator → List Expr → Expr → List Item → List Frame → Move
behind_values w.Comma place d e vs x xs s = Go (At xs s (at.Values place d e (vs ++ x ∷ [])))
behind_values w.RightBrace place d e vs x xs s = Go (At xs s (at.Valued place d (with_initialiser e (i.Braces (vs ++ x ∷ [])))))
behind_values _ place d e vs x xs s = Stop

abbrev pub tested_goes : Tested → Expr → List Item → List Frame → Move
tested_goes (tested.If p) x xs s = Go (At xs (AfterIf p x ∷ s) at.Begin)
tested_goes (tested.While p) x xs s = Go (At xs (AfterWhile p x ∷ s) at.Begin)
tested_goes (tested.Do p y) x xs s = Go (At xs s (at.Semicolon (tree.DoWhile p y x)))

abbrev pub behind_test : Word → Tested → Expr → List Item → List Frame → Move
behind_test w.Right c x xs s = tested_goes c x xs s
behind_test _ c x xs s = Stop

abbrev pub behind_part : Word → List Item → List Frame → Position → Move
behind_part w.Semicolon xs s position = Go (At xs s position)
behind_part _ xs s position = Stop

abbrev pub behind_step : Word → Place → Start → Option Expr → Expr → List Item → List Frame → Move
behind_step w.Right p b y x xs s = Go (At xs (AfterFor p b y (Some x) ∷ s) at.Begin)
behind_step _ p b y x xs s = Stop

-- the token behind an expression that was asked for, and that begins at the place
abbrev pub shut_by : Word → Place → Expr → State → Move
shut_by v p x (At xs s (at.Size place d q c)) = behind_size v place d q c x xs s
shut_by v p x (At xs s (at.Value place d e)) = behind_value v place d e x xs s
shut_by v p x (At xs s (at.Values place d e vs)) = behind_values v place d e vs x xs s
shut_by v p x (At xs s at.Begin) = behind_expression v p x xs s
shut_by v p x (At xs s (at.Test c)) = behind_test v c x xs s
shut_by v p x (At xs s (at.ForStart q)) = behind_part v xs s (at.ForTest q (start.Expr x))
shut_by v p x (At xs s (at.ForTest q b)) = behind_part v xs s (at.ForStep q b (Some x))
shut_by v p x (At xs s (at.ForStep q b y)) = behind_step v q b y x xs s
shut_by v p x (At xs s (at.Return q)) = behind_part v xs s (at.Whole (tree.Return q (Some x)))
shut_by v p x _ = Stop

abbrev pub shut : Token → Place → Expr → State → Move
shut u p x state = shut_by (word_of u) p x state

-- the program, where no item is open
abbrev pub finish : State → Option Program
finish (At xs s at.Top) = Some (record { items = xs })
finish _ = None

-- the machine's state: the parser's stack has its innermost statement last
abbrev pub seen : Position → Read → State
seen position read = At read.items (reverse read.stack) position

-- The parser does what the machine does.
abbrev pub StepGives : Stepped → Read → Move → Type 0
StepGives (stepped.Go position) read move = move ≡ Go (seen position read)
StepGives (stepped.Ask position f above) read move = move ≡ Ask (seen position read) f above
StepGives stepped.Stop read move = move ≡ Stop

-- No token stands behind an expression: it is refused, or the text ends behind it.
abbrev pub EndsBefore : ℕ → ℕ → Tokens → ℕ → Refusal → Type 0
EndsBefore f n tokens at e =
    expr.HasCause f n tokens at e ⊎ ((x : Expr) × (next : ℕ) × expr.Finds f n tokens at x next × (length tokens.list ≤ next) × (e ≡ Syntax tokens.end))
