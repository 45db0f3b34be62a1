-- The machine reads each text of the grammar: how each token of a text is taken.
use Rattle.std.proofs.Common.{◌≡◌, ℕ, suc, ◌+◌, ◌≤◌, Bool, true, false, ◌&&◌, List, [], ◌∷◌, ◌++◌, length, Some, refl, ap, ◌∙◌, arith}
use Rattle.std.specs.Prelude.{codes, nat_le, nat_lt}
use Rattle.std.proofs.lemmas.Bool.{le-leb, le-ltb, and_from, cond-true, cond-false}
use Rattle.dg_base.specs.declared.Place.{Place}
use Rattle.token_list.specs.declared.Token.{Token}
use Rattle.c_tree.specs.declared.expr.TypeWord.{TypeWord}
use Rattle.c_tree.specs.declared.expr.UnaryOp.{UnaryOp}
use Rattle.c_tree.specs.declared.expr.UnaryOp.TheVariants as unary
use Rattle.c_tree.specs.declared.expr.StepOp.{StepOp}
use Rattle.c_tree.specs.declared.expr.BinaryOp.{BinaryOp}
use Rattle.c_tree.specs.declared.expr.AssignOp.{AssignOp}
use Rattle.c_tree.specs.declared.expr.Expr.{Expr}
use Rattle.c_tree.specs.declared.expr.Expr.TheVariants as e
use Rattle.c_tree.specs.Level.{expr_level}
use Rattle.c_expr.specs.declared.word.Word.{Word}
use Rattle.c_expr.specs.declared.word.Word.TheVariants as w
use Rattle.c_expr.specs.declared.frame.Frame.{Frame}
use Rattle.c_expr.specs.declared.frame.Frame.TheVariants.{InBracket, InTarget, InIndex, InCall, AfterAddress, AfterCast, AfterSign, AfterStep, AfterOperator, AfterTest, AfterChoice, AfterAssign, AfterComma}
use Rattle.c_expr.specs.Words.{mark, prefix_text, step_text, binary_text, assignment_text, word_of}
use Rattle.c_expr.specs.Expressions.{tier, may_assign, is_lvalue, IsType, int, signed, signed_int, unsigned, unsigned_int, void, pointer, thread, mutex, cond as cond_variable}
use Rattle.c_expr.specs.Machine as machine
use Rattle.c_expr.specs.Machine.{reach, wanted_by, wants, Held, close, State, Want, Named, Have, Next, Go, if_so, pushed, has_room, over, extend, named, start, step_behind, right, bracket_frame, step, Ended, goes_on, run, finish, whole}
use Rattle.c_expr.proofs.Spelled.{word-step, word-binary, word-assign}

-- a state that has read this operand whole
pub data IsHeld : State → Expr → List Frame → Type 0 where
  is_named : {q : Place} {c : List ℕ} {s : List Frame} → IsHeld (Named q c s) (e.Name q c) s
  is_had : {x : Expr} {s : List Frame} → IsHeld (Have x s) x s

-- the words behind which a name is more than a name
abbrev pub opens : Word → Bool
opens w.Left = true
opens w.LeftSquare = true
opens _ = false

pub named_acts : (f n : ℕ) (v : Word) (p q : Place) (c : List ℕ) (s : List Frame) → opens v ≡ false → named f n v p q c s ≡ extend f n v p (e.Name q c) s
named_acts f n w.Left p q c s is = let bad : true ≡ false = is in cc
named_acts f n w.LeftSquare p q c s is = let bad : true ≡ false = is in cc
named_acts f n w.Name p q c s is = refl
named_acts f n w.Number p q c s is = refl
named_acts f n w.Text p q c s is = refl
named_acts f n w.Right p q c s is = refl
named_acts f n w.RightSquare p q c s is = refl
named_acts f n w.LeftBrace p q c s is = refl
named_acts f n w.RightBrace p q c s is = refl
named_acts f n w.Semicolon p q c s is = refl
named_acts f n w.Comma p q c s is = refl
named_acts f n w.Ask p q c s is = refl
named_acts f n w.Colon p q c s is = refl
named_acts f n (w.Sign o) p q c s is = refl
named_acts f n (w.Step o) p q c s is = refl
named_acts f n (w.Binary o) p q c s is = refl
named_acts f n (w.Assign o) p q c s is = refl
named_acts f n (w.Type o) p q c s is = refl
named_acts f n (w.Keyword o) p q c s is = refl
named_acts f n w.Other p q c s is = refl

-- such a state takes a token as the operand does
pub acts : (f n : ℕ) {st : State} {x : Expr} {s : List Frame} → IsHeld st x s → (t : Token) (v : Word) → word_of t ≡ v → opens v ≡ false → step f n t st ≡ extend f n v t.place x s
acts f n {x = x} {s = s} is_had t v is no_open = ap (λ u. extend f n u t.place x s) is
acts f n (is_named {q = q} {c = c} {s = s}) t v is no_open = ap (λ u. named f n u t.place q c s) is ∙ named_acts f n v t.place q c s no_open

pub held_finish : {st : State} {x : Expr} {s : List Frame} → IsHeld st x s → finish st ≡ whole (close 0 x s).tree (close 0 x s).stack
held_finish is_had = refl
held_finish is_named = refl

-- a token where an operand is to come
pub begins_with : (f n : ℕ) (s : List Frame) (t : Token) (v : Word) → word_of t ≡ v → step f n t (Want s) ≡ start f n v t s
begins_with f n s t v is = ap (λ u. start f n u t s) is

-- a step that is taken
pub stepped : (f n : ℕ) (s s' : State) (t : Token) (ts : List Token) → step f n t s ≡ Go s' → run f n s (t ∷ ts) ≡ run f n s' ts
stepped f n s s' t ts is = ap (λ k. goes_on k s (λ r. run f n r ts) (record { state = s; rest = t ∷ ts })) is

pub if_true : (b : Bool) (x : Next) → b ≡ true → if_so b x ≡ x
if_true b x is = cond-true b x machine.Stop is

-- there is room
pub pushes : (n : ℕ) (s : List Frame) (g : Frame) → suc (length s) ≤ n → pushed n s g ≡ Go (Want (g ∷ s))
pushes n s g le = if_true (nat_le (suc (length s)) n) _ (le-leb (suc (length s)) n le)

pub pushes_over : (f n k : ℕ) (h : Held) (x : Expr) (s : List Frame) (g : Expr → Frame) → h ≡ record { tree = x; stack = s } → wants f s ≤ k → suc (expr_level x + length s) ≤ n → over f n k h g ≡ Go (Want (g x ∷ s))
pushes_over f n k h x s g is le fit =
    ap (λ j. over f n k j g) is
    ∙ if_true (nat_le (wants f s) k && has_room n (record { tree = x; stack = s })) _
    (and_from (nat_le (wants f s) k) (has_room n (record { tree = x; stack = s })) (le-leb (wants f s) k le) (le-leb (suc (expr_level x + length s)) n fit))

-- what is wanted by the topmost node stays open to what binds no looser
reach_small : (g : Frame) (l : ℕ) → 3 ≤ l → l ≤ 12 → wanted_by g ≤ l → reach g ≤ l
reach_small (InBracket p) l low high le = omega arith
reach_small (InTarget p) l low high le = omega arith
reach_small (InIndex p c) l low high le = omega arith
reach_small (InCall p c xs) l low high le = omega arith
reach_small (AfterAddress p) l low high le = omega arith
reach_small (AfterCast p k) l low high le = omega arith
reach_small (AfterSign p o) l low high le = omega arith
reach_small (AfterStep p o) l low high le = omega arith
reach_small (AfterOperator p o y) l low high le = omega arith
reach_small (AfterTest p y) l low high le = omega arith
reach_small (AfterChoice p y z) l low high le = omega arith
reach_small (AfterAssign p o y) l low high le = omega arith
reach_small (AfterComma p y) l low high le = omega arith

pub stays_open : (f l : ℕ) (x : Expr) (s : List Frame) → 3 ≤ l → l ≤ 12 → wants f s ≤ l → close l x s ≡ record { tree = x; stack = s }
stays_open f l x [] low high le = refl
stays_open f l x (g ∷ s) low high le = cond-false (nat_lt l (reach g)) _ _ (le-ltb l (reach g) (reach_small g l low high le))

reach_none : (g : Frame) → wanted_by g ≤ 0 → reach g ≤ 0
reach_none (InBracket p) le = omega arith
reach_none (InTarget p) le = omega arith
reach_none (InIndex p c) le = omega arith
reach_none (InCall p c xs) le = omega arith
reach_none (AfterAddress p) le = omega arith
reach_none (AfterCast p k) le = omega arith
reach_none (AfterSign p o) le = omega arith
reach_none (AfterStep p o) le = omega arith
reach_none (AfterOperator p o y) le = omega arith
reach_none (AfterTest p y) le = omega arith
reach_none (AfterChoice p y z) le = omega arith
reach_none (AfterAssign p o y) le = omega arith
reach_none (AfterComma p y) le = omega arith

pub bottom_open : (f : ℕ) (x : Expr) (s : List Frame) → wants f s ≤ 0 → close 0 x s ≡ record { tree = x; stack = s }
bottom_open f x [] le = refl
bottom_open f x (g ∷ s) le = cond-false (nat_lt 0 (reach g)) _ _ (le-ltb 0 (reach g) (reach_none g le))

-- where no argument is wanted, a comma is an operator
comma_operator : (f n : ℕ) (p : Place) (x : Expr) (s : List Frame) → wants f s ≤ 0 → machine.comma f n p x s ≡ over f n 0 (record { tree = x; stack = s }) (AfterComma p)
comma_operator f n q x [] le = refl
comma_operator f n q x (InCall p c xs ∷ s) le = absurd (omega arith)
comma_operator f n q x (AfterAddress p ∷ s) le = absurd (omega arith)
comma_operator f n q x (InBracket p ∷ s) le = refl
comma_operator f n q x (InTarget p ∷ s) le = refl
comma_operator f n q x (InIndex p c ∷ s) le = refl
comma_operator f n q x (AfterCast p k ∷ s) le = refl
comma_operator f n q x (AfterSign p o ∷ s) le = refl
comma_operator f n q x (AfterStep p o ∷ s) le = refl
comma_operator f n q x (AfterOperator p o y ∷ s) le = refl
comma_operator f n q x (AfterTest p y ∷ s) le = refl
comma_operator f n q x (AfterChoice p y z ∷ s) le = refl
comma_operator f n q x (AfterAssign p o y ∷ s) le = refl
comma_operator f n q x (AfterComma p y ∷ s) le = refl

-- the steps behind an operand
pub op_step : (f n : ℕ) {st : State} {x' : Expr} {s' : List Frame} (p : Place) (o : BinaryOp) (x : Expr) (s : List Frame) → IsHeld st x' s' → close (tier o) x' s' ≡ record { tree = x; stack = s } → wants f s ≤ tier o
    → suc (expr_level x + length s) ≤ n → step f n (mark (binary_text o) p) st ≡ Go (Want (AfterOperator p o x ∷ s))
op_step f n {x' = x'} {s' = s'} p o x s held is le fit =
    acts f n held (mark (binary_text o) p) (w.Binary o) (word-binary o p) refl ∙ pushes_over f n (tier o) (close (tier o) x' s') x s (AfterOperator p o) is le fit

pub ask_step : (f n : ℕ) {st : State} {x' : Expr} {s' : List Frame} (p : Place) (x : Expr) (s : List Frame) → IsHeld st x' s' → close 3 x' s' ≡ record { tree = x; stack = s } → wants f s ≤ 2
    → suc (expr_level x + length s) ≤ n → step f n (mark (codes "?") p) st ≡ Go (Want (AfterTest p x ∷ s))
ask_step f n {x' = x'} {s' = s'} p x s held is le fit =
    acts f n held (mark (codes "?") p) w.Ask refl refl ∙ pushes_over f n 2 (close 3 x' s') x s (AfterTest p) is le fit

pub colon_step : (f n : ℕ) {st : State} {y' : Expr} {s' : List Frame} (p q : Place) (x y : Expr) (s : List Frame) → IsHeld st y' s' → close 0 y' s' ≡ record { tree = y; stack = AfterTest p x ∷ s }
    → step f n (mark (codes ":") q) st ≡ Go (Want (AfterChoice p x y ∷ s))
colon_step f n p q x y s held is = acts f n held (mark (codes ":") q) w.Colon refl refl ∙ ap (λ (h : Held). machine.colon h.tree h.stack) is

pub right_step : (f n : ℕ) {st : State} {x' : Expr} {s' : List Frame} (q : Place) (x : Expr) (s : List Frame) (next : Next) → IsHeld st x' s' → close 0 x' s' ≡ record { tree = x; stack = s } → right x s ≡ next
    → step f n (mark (codes ")") q) st ≡ next
right_step f n q x s next held is gives = acts f n held (mark (codes ")") q) w.Right refl refl ∙ ap (λ (h : Held). right h.tree h.stack) is ∙ gives

pub square_step : (f n : ℕ) {st : State} {x' : Expr} {s' : List Frame} (p q : Place) (c : List ℕ) (x : Expr) (s : List Frame) → IsHeld st x' s' → close 0 x' s' ≡ record { tree = x; stack = InIndex p c ∷ s }
    → step f n (mark (codes "]") q) st ≡ Go (Have (e.Index p c x) s)
square_step f n p q c x s held is = acts f n held (mark (codes "]") q) w.RightSquare refl refl ∙ ap (λ (h : Held). machine.right_square h.tree h.stack) is

-- a comma, behind an argument or between operands
pub comma_step : (f n : ℕ) {st : State} {x' : Expr} {s' : List Frame} (q : Place) (x : Expr) (s : List Frame) (next : Next) → IsHeld st x' s' → close 0 x' s' ≡ record { tree = x; stack = s }
    → machine.comma f n q x s ≡ next → step f n (mark (codes ",") q) st ≡ next
comma_step f n q x s next held is gives = acts f n held (mark (codes ",") q) w.Comma refl refl ∙ ap (λ (h : Held). machine.comma f n q h.tree h.stack) is ∙ gives

pub commas_over : (f n : ℕ) (q : Place) (x : Expr) (s : List Frame) → wants f s ≤ 0 → suc (expr_level x + length s) ≤ n → machine.comma f n q x s ≡ Go (Want (AfterComma q x ∷ s))
commas_over f n q x s le fit = comma_operator f n q x s le ∙ pushes_over f n 0 (record { tree = x; stack = s }) x s (AfterComma q) refl le fit

pub assign_step : (f n : ℕ) {st : State} {x' : Expr} {s' : List Frame} (p : Place) (o : AssignOp) (x : Expr) (s : List Frame) → IsHeld st x' s' → x' ≡ x → s' ≡ s → may_assign o ≡ true → is_lvalue x ≡ true → wants f s ≤ 1
    → suc (expr_level x + length s) ≤ n → step f n (mark (assignment_text o) p) st ≡ Go (Want (AfterAssign p o x ∷ s))
assign_step f n {x' = x'} {s' = s'} p o x s held is_x is_s may v le fit =
    acts f n held (mark (assignment_text o) p) (w.Assign o) (word-assign o p may) refl
    ∙ ap (λ y. machine.assign f n p o y s') is_x ∙ ap (λ t. machine.assign f n p o x t) is_s
    ∙ if_true (is_lvalue x) _ v ∙ pushes_over f n 1 (record { tree = x; stack = s }) x s (AfterAssign p o) refl le fit

pub behind_step : (f n : ℕ) {st : State} {x' : Expr} {s' : List Frame} (p : Place) (o : StepOp) (x : Expr) (s : List Frame) → IsHeld st x' s' → x' ≡ x → s' ≡ s → is_lvalue x ≡ true → wants f s ≤ 13
    → suc (expr_level x + length s) ≤ n → step f n (mark (step_text o) p) st ≡ Go (Have (e.StepAfter p o x) s)
behind_step f n {x' = x'} {s' = s'} p o x s held is_x is_s v le fit =
    acts f n held (mark (step_text o) p) (w.Step o) (word-step o p) refl
    ∙ ap (λ y. step_behind f n p o y s') is_x ∙ ap (λ t. step_behind f n p o x t) is_s
    ∙ if_true (is_lvalue x && (nat_le (wants f s) 13 && has_room n (record { tree = x; stack = s }))) _
    (and_from (is_lvalue x) (nat_le (wants f s) 13 && has_room n (record { tree = x; stack = s })) v
    (and_from (nat_le (wants f s) 13) (has_room n (record { tree = x; stack = s })) (le-leb (wants f s) 13 le) (le-leb (suc (expr_level x + length s)) n fit)))

-- the steps where an operand is to come
sign_words : (f n : ℕ) (p : Place) (o : UnaryOp) (s : List Frame) → step f n (mark (prefix_text o) p) (Want s) ≡ machine.signed f n p s (Some o)
sign_words f n p unary.LogicNot s = refl
sign_words f n p unary.BitNot s = refl
sign_words f n p unary.Negate s = refl
sign_words f n p unary.Plus s = refl

pub sign_step : (f n : ℕ) (p : Place) (o : UnaryOp) (s : List Frame) → wants f s ≤ 13 → suc (length s) ≤ n → step f n (mark (prefix_text o) p) (Want s) ≡ Go (Want (AfterSign p o ∷ s))
sign_step f n p o s le fit = sign_words f n p o s ∙ if_true (nat_le (wants f s) 13) _ (le-leb (wants f s) 13 le) ∙ pushes n s (AfterSign p o) fit

pub before_step : (f n : ℕ) (p : Place) (o : StepOp) (s : List Frame) → wants f s ≤ 13 → suc (length s) ≤ n → step f n (mark (step_text o) p) (Want s) ≡ Go (Want (AfterStep p o ∷ s))
before_step f n p o s le fit =
    begins_with f n s (mark (step_text o) p) (w.Step o) (word-step o p) ∙ if_true (nat_le (wants f s) 13) _ (le-leb (wants f s) 13 le) ∙ pushes n s (AfterStep p o) fit

pub left_step : (f n : ℕ) (p : Place) (s : List Frame) (g : Frame) → bracket_frame f p s ≡ g → suc (length s) ≤ n → step f n (mark (codes "(") p) (Want s) ≡ Go (Want (g ∷ s))
left_step f n p s g is fit = ap (pushed n s) is ∙ pushes n s g fit

pub call_step : (f n : ℕ) (p q : Place) (c : List ℕ) (s : List Frame) → wants f s ≤ 13 → suc (length s) ≤ n → step f n (mark (codes "(") q) (Named p c s) ≡ Go (Want (InCall p c [] ∷ s))
call_step f n p q c s le fit = if_true (nat_le (wants f s) 13) _ (le-leb (wants f s) 13 le) ∙ pushes n s (InCall p c []) fit

-- the words of a type behind the bracket of a cast
pub type_run : (f n : ℕ) (p q : Place) (s : List Frame) {a : List Token} {k : TypeWord} (rest : List Token) → IsType a k → run f n (Want (InBracket p ∷ s)) (a ++ mark (codes ")") q ∷ rest) ≡ run f n (Want (AfterCast p k ∷ s)) rest
type_run f n p q s rest (int u) = refl
type_run f n p q s rest (signed u) = refl
type_run f n p q s rest (signed_int u v) = refl
type_run f n p q s rest (unsigned u) = refl
type_run f n p q s rest (unsigned_int u v) = refl
type_run f n p q s rest (void u) = refl
type_run f n p q s rest (pointer u v) = refl
type_run f n p q s rest (thread u) = refl
type_run f n p q s rest (mutex u) = refl
type_run f n p q s rest (cond_variable u) = refl
