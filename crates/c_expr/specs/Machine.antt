-- The parser as a machine: a stack of nodes that are not whole yet, the topmost first, and one step for each token.
use Rattle.std.specs.Prelude.{Option, Some, None, ℕ, suc, ◌+◌, Bool, true, false, nat_le, nat_lt, ◌&&◌, if◌then◌else◌, List, [], ◌∷◌, ◌++◌, length}
use Rattle.dg_base.specs.declared.Place.{Place}
use Rattle.token_list.specs.declared.Token.{Token}
use Rattle.c_tree.specs.declared.expr.TypeWord.{TypeWord}
use Rattle.c_tree.specs.declared.expr.UnaryOp.{UnaryOp}
use Rattle.c_tree.specs.declared.expr.UnaryOp.TheVariants as unary
use Rattle.c_tree.specs.declared.expr.StepOp.{StepOp}
use Rattle.c_tree.specs.declared.expr.BinaryOp.{BinaryOp}
use Rattle.c_tree.specs.declared.expr.BinaryOp.TheVariants as binary
use Rattle.c_tree.specs.declared.expr.AssignOp.{AssignOp}
use Rattle.c_tree.specs.declared.expr.Expr.{Expr}
use Rattle.c_tree.specs.declared.expr.Expr.TheVariants as e
use Rattle.c_tree.specs.Level.{expr_level}
use Rattle.c_expr.specs.declared.word.TypeName.{TypeName}
use Rattle.c_expr.specs.declared.word.Word.{Word}
use Rattle.c_expr.specs.declared.word.Word.TheVariants as w
use Rattle.c_expr.specs.declared.frame.Frame.{Frame}
use Rattle.c_expr.specs.declared.frame.Frame.TheVariants.{InBracket, InTarget, InIndex, InCall, AfterAddress, AfterCast, AfterSign, AfterStep, AfterOperator, AfterTest, AfterChoice, AfterAssign, AfterComma}
use Rattle.c_expr.specs.Words.{word_of}
use Rattle.c_expr.specs.TypeWords.{first_word, may_grow, grown}
use Rattle.c_expr.specs.Expressions.{tier, is_lvalue, value_in}
use Rattle.token_list.specs.Numbers.{is_unsigned}

-- the node with its last part
abbrev pub filled : Frame → Expr → Expr
filled (InBracket p) x = e.Bracket p x
filled (InTarget p) x = e.Bracket p x
filled (InIndex p c) x = e.Index p c x
filled (InCall p c xs) x = e.Call p c (xs ++ x ∷ [])
filled (AfterAddress p) x = e.Address p x
filled (AfterCast p k) x = e.Cast p k x
filled (AfterSign p o) x = e.Unary p o x
filled (AfterStep p o) x = e.StepBefore p o x
filled (AfterOperator p o y) x = e.Binary p o y x
filled (AfterTest p y) x = y
filled (AfterChoice p y z) x = e.Choose p y z x
filled (AfterAssign p o y) x = e.Assign p o y x
filled (AfterComma p y) x = e.Comma p y x

-- the node is whole before every operator of a lower level than this
abbrev pub reach : Frame → ℕ
reach (InBracket p) = 0
reach (InTarget p) = 0
reach (InIndex p c) = 0
reach (InCall p c xs) = 0
reach (AfterAddress p) = 0
reach (AfterCast p k) = 14
reach (AfterSign p o) = 14
reach (AfterStep p o) = 14
reach (AfterOperator p o y) = suc (tier o)
reach (AfterTest p y) = 0
reach (AfterChoice p y z) = 3
reach (AfterAssign p o y) = 2
reach (AfterComma p y) = 1

-- what a node still wants
abbrev pub wanted_by : Frame → ℕ
wanted_by (InBracket p) = 0
wanted_by (InTarget p) = 14
wanted_by (InIndex p c) = 0
wanted_by (InCall p c xs) = 1
wanted_by (AfterAddress p) = 14
wanted_by (AfterCast p k) = 13
wanted_by (AfterSign p o) = 13
wanted_by (AfterStep p o) = 14
wanted_by (AfterOperator p o y) = suc (tier o)
wanted_by (AfterTest p y) = 0
wanted_by (AfterChoice p y z) = 2
wanted_by (AfterAssign p o y) = 1
wanted_by (AfterComma p y) = 1

-- What the topmost node still wants, where the whole text is of level f. An operand of level 14 is wanted only where it
-- must be assigned to.
abbrev pub wants : ℕ → List Frame → ℕ
wants f [] = f
wants f (g ∷ s) = wanted_by g

-- a whole expression and the nodes that wait for it
pub record Held : Type 0 where
  pub tree : Expr
  pub stack : List Frame

-- with each node that is whole before an operator of this level
abbrev pub close : ℕ → Expr → List Frame → Held
close l x [] = record { tree = x; stack = [] }
close l x (g ∷ s) = if nat_lt l (reach g) then close l (filled g x) s else record { tree = x; stack = g ∷ s }

-- What was read last: nothing of an operand, a name, a whole operand, an argument's texts, or a cast's `(` and words of
-- a type, with whether one word more may belong to it.
pub data State : Type 0 where
  Want : List Frame → State
  Named : Place → List ℕ → List Frame → State
  Have : Expr → List Frame → State
  Texts : Place → List Frame → State
  Typed : Place → TypeWord → Bool → List Frame → State

pub data Next : Type 0 where
  Go : State → Next
  Stop : Next

abbrev pub if_so : Bool → Next → Next
if_so b next = if b then next else Stop

-- a node more, where there is room
abbrev pub pushed : ℕ → List Frame → Frame → Next
pushed n s g = if_so (nat_le (suc (length s)) n) (Go (Want (g ∷ s)))

-- room for a node over this tree
abbrev pub has_room : ℕ → Held → Bool
has_room n h = nat_le (suc (expr_level h.tree + length h.stack)) n

-- a node more, whose first part is read and whose level is wanted
abbrev pub over : ℕ → ℕ → ℕ → Held → (Expr → Frame) → Next
over f n l h g = if_so (nat_le (wants f h.stack) l && has_room n h) (Go (Want (g h.tree ∷ h.stack)))

-- a call's arguments begin, or one is to come
abbrev pub calls : List Frame → Bool
calls (InCall p c xs ∷ s) = true
calls _ = false

-- what stands on top of the stack
abbrev pub addresses : List Frame → Bool
addresses (AfterAddress p ∷ s) = true
addresses _ = false

abbrev pub brackets : List Frame → Bool
brackets (InBracket p ∷ s) = true
brackets _ = false

abbrev pub targets : List Frame → Bool
targets (InTarget p ∷ s) = true
targets _ = false

abbrev pub indexes : List Frame → Bool
indexes (InIndex p c ∷ s) = true
indexes _ = false

abbrev pub tests : List Frame → Bool
tests (AfterTest p y ∷ s) = true
tests _ = false

-- a `)` where an operand is to come: a call has no arguments
abbrev pub no_arguments : List Frame → Next
no_arguments (InCall p c [] ∷ s) = Go (Have (e.Call p c []) s)
no_arguments _ = Stop

-- a word of a type behind the `(` of a bracket
abbrev pub typed : TypeName → List Frame → Next
typed t (InBracket p ∷ s) = Go (Typed p (first_word t) (may_grow t) s)
typed t _ = Stop

-- the mark of a sign
abbrev pub sign_of : BinaryOp → Option UnaryOp
sign_of binary.Plus = Some unary.Plus
sign_of binary.Minus = Some unary.Negate
sign_of _ = None

-- a sign, where no target is wanted
abbrev pub signed : ℕ → ℕ → Place → List Frame → Option UnaryOp → Next
signed f n p s None = Stop
signed f n p s (Some o) = if_so (nat_le (wants f s) 13) (pushed n s (AfterSign p o))

-- an operator between operands where an operand is to come
abbrev pub operator_first : ℕ → ℕ → Place → List Frame → BinaryOp → Next
operator_first f n p s binary.BitAnd = if_so (calls s) (pushed n s (AfterAddress p))
operator_first f n p s o = signed f n p s (sign_of o)

-- a bracket: round an expression, or round what can be assigned to
abbrev pub bracket_frame : ℕ → Place → List Frame → Frame
bracket_frame f p s = if nat_le (wants f s) 13 then InBracket p else InTarget p

-- a token where an operand is to come
abbrev pub start : ℕ → ℕ → Word → Token → List Frame → Next
start f n w.Name t s = Go (Named t.place t.text s)
start f n w.Number t s = if_so (nat_le (wants f s) 13) (Go (Have (e.Number t.place (value_in t.text) (is_unsigned t.text (value_in t.text))) s))
start f n w.Text t s = if_so (calls s) (Go (Texts t.place s))
start f n w.Left t s = pushed n s (bracket_frame f t.place s)
start f n w.Right t s = no_arguments s
start f n (w.Sign o) t s = signed f n t.place s (Some o)
start f n (w.Step o) t s = if_so (nat_le (wants f s) 13) (pushed n s (AfterStep t.place o))
start f n (w.Binary o) t s = operator_first f n t.place s o
start f n (w.Type k) t s = typed k s
start f n _ t s = Stop

-- a `,` behind an argument
abbrev pub next_argument : Expr → List Frame → Next
next_argument x (InCall p c xs ∷ s) = Go (Want (InCall p c (xs ++ x ∷ []) ∷ s))
next_argument x _ = Stop

-- a `,` behind an expression: behind an address, behind another argument, or as the operator
abbrev pub comma : ℕ → ℕ → Place → Expr → List Frame → Next
comma f n p x (AfterAddress q ∷ s) = next_argument (e.Address q x) s
comma f n p x (InCall q c xs ∷ s) = next_argument x (InCall q c xs ∷ s)
comma f n p x s = over f n 0 (record { tree = x; stack = s }) (AfterComma p)

-- a `)` behind a call's last argument
abbrev pub last_argument : Expr → List Frame → Next
last_argument x (InCall p c xs ∷ s) = Go (Have (e.Call p c (xs ++ x ∷ [])) s)
last_argument x _ = Stop

-- a `)` behind an expression: behind an address, or at the end of a bracket or of a call
abbrev pub right : Expr → List Frame → Next
right x (AfterAddress q ∷ s) = last_argument (e.Address q x) s
right x (InBracket p ∷ s) = Go (Have (e.Bracket p x) s)
right x (InTarget p ∷ s) = Go (Have (e.Bracket p x) s)
right x s = last_argument x s

-- a `]` behind an expression
abbrev pub right_square : Expr → List Frame → Next
right_square x (InIndex p c ∷ s) = Go (Have (e.Index p c x) s)
right_square x _ = Stop

-- a `:` behind an expression
abbrev pub colon : Expr → List Frame → Next
colon x (AfterTest p y ∷ s) = Go (Want (AfterChoice p y x ∷ s))
colon x _ = Stop

-- `++` or `--` behind an operand
abbrev pub step_behind : ℕ → ℕ → Place → StepOp → Expr → List Frame → Next
step_behind f n p o x s = if_so (is_lvalue x && (nat_le (wants f s) 13 && has_room n (record { tree = x; stack = s }))) (Go (Have (e.StepAfter p o x) s))

-- the operator of an assignment behind an operand
abbrev pub assign : ℕ → ℕ → Place → AssignOp → Expr → List Frame → Next
assign f n p o x s = if_so (is_lvalue x) (over f n 1 (record { tree = x; stack = s }) (AfterAssign p o))

-- the words that close what is open, and the comma
abbrev pub shuts : Word → Bool
shuts w.Right = true
shuts w.RightSquare = true
shuts w.Comma = true
shuts w.Colon = true
shuts _ = false

-- such a word behind an expression that is whole before it
abbrev pub behind_closed : ℕ → ℕ → Word → Place → Expr → List Frame → Next
behind_closed f n w.Right p x s = right x s
behind_closed f n w.RightSquare p x s = right_square x s
behind_closed f n w.Comma p x s = comma f n p x s
behind_closed f n w.Colon p x s = colon x s
behind_closed f n _ p x s = Stop

-- a token behind an operand
abbrev pub extend : ℕ → ℕ → Word → Place → Expr → List Frame → Next
extend f n w.Right p x s = let h = close 0 x s in behind_closed f n w.Right p h.tree h.stack
extend f n w.RightSquare p x s = let h = close 0 x s in behind_closed f n w.RightSquare p h.tree h.stack
extend f n w.Comma p x s = let h = close 0 x s in behind_closed f n w.Comma p h.tree h.stack
extend f n w.Colon p x s = let h = close 0 x s in behind_closed f n w.Colon p h.tree h.stack
extend f n w.Ask p x s = over f n 2 (close 3 x s) (AfterTest p)
extend f n (w.Step o) p x s = step_behind f n p o x s
extend f n (w.Binary o) p x s = over f n (tier o) (close (tier o) x s) (AfterOperator p o)
extend f n (w.Assign o) p x s = assign f n p o x s
extend f n _ p x s = Stop

-- a token behind a name
abbrev pub named : ℕ → ℕ → Word → Place → Place → List ℕ → List Frame → Next
named f n w.LeftSquare p q c s = pushed n s (InIndex q c)
named f n w.Left p q c s = if_so (nat_le (wants f s) 13) (pushed n s (InCall q c []))
named f n v p q c s = extend f n v p (e.Name q c) s

-- a token behind an argument's texts
abbrev pub behind_texts : Word → Place → List Frame → Next
behind_texts w.Text q s = Go (Texts q s)
behind_texts w.Comma q s = next_argument (e.Text q) s
behind_texts w.Right q s = last_argument (e.Text q) s
behind_texts _ q s = Stop

abbrev pub grows : Place → List Frame → Option TypeWord → Next
grows p s None = Stop
grows p s (Some k) = Go (Typed p k false s)

-- a token behind words of a type
abbrev pub behind_type : Word → Place → TypeWord → Bool → List Frame → Next
behind_type w.Right p k more s = Go (Want (AfterCast p k ∷ s))
behind_type v p k more s = if_so more (grows p s (grown v k))

abbrev pub step : ℕ → ℕ → Token → State → Next
step f n t (Want s) = start f n (word_of t) t s
step f n t (Named q c s) = named f n (word_of t) t.place q c s
step f n t (Have x s) = extend f n (word_of t) t.place x s
step f n t (Texts q s) = behind_texts (word_of t) q s
step f n t (Typed p k more s) = behind_type (word_of t) p k more s

-- where a run ends: the state, and the tokens that are left
pub record Ended : Type 0 where
  pub state : State
  pub rest : List Token

abbrev pub goes_on : Next → State → (State → Ended) → Ended → Ended
goes_on (Go s) old go stop = go s
goes_on Stop old go stop = stop

-- from token to token until one is refused
abbrev pub run : ℕ → ℕ → State → List Token → Ended
run f n s [] = record { state = s; rest = [] }
run f n s (t ∷ ts) = goes_on (step f n t s) s (λ s'. run f n s' ts) (record { state = s; rest = t ∷ ts })

-- the tree of a run that is a whole text
abbrev pub whole : Expr → List Frame → Option Expr
whole x [] = Some x
whole x (g ∷ s) = None

abbrev pub finish : State → Option Expr
finish (Want s) = None
finish (Named p c s) = let h = close 0 (e.Name p c) s in whole h.tree h.stack
finish (Have x s) = let h = close 0 x s in whole h.tree h.stack
finish (Texts p s) = None
finish (Typed p k more s) = None
