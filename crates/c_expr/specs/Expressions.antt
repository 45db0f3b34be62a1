-- Which lists of tokens are expressions, and of which tree.
use Rattle.std.specs.Prelude.{◌≡◌, ℕ, suc, ◌≤◌, Bool, true, false, IsTrue, List, [], ◌∷◌, ◌++◌, codes, unwrap_or}
use Rattle.dg_base.specs.declared.Place.{Place}
use Rattle.c_tree.specs.declared.expr.TypeWord.{TypeWord}
use Rattle.c_tree.specs.declared.expr.TypeWord.TheVariants as type
use Rattle.c_tree.specs.declared.expr.UnaryOp.{UnaryOp}
use Rattle.c_tree.specs.declared.expr.StepOp.{StepOp}
use Rattle.c_tree.specs.declared.expr.BinaryOp.{BinaryOp}
use Rattle.c_tree.specs.declared.expr.BinaryOp.TheVariants as op
use Rattle.c_tree.specs.declared.expr.AssignOp.{AssignOp}
use Rattle.c_tree.specs.declared.expr.AssignOp.TheVariants as assignment
use Rattle.c_tree.specs.declared.expr.Expr.{Expr, fold-Expr}
use Rattle.c_tree.specs.declared.expr.Expr.TheVariants as e
use Rattle.c_tree.specs.declared.expr.Expr.TheOpen.{Expr-F}
use Rattle.token_list.specs.declared.Token.{Token}
use Rattle.token_list.specs.declared.TokenKind.TheVariants.{Number, Text}
use Rattle.token_list.specs.Numbers.{number_value, is_unsigned}
use Rattle.c_expr.specs.Words.{mark, word, prefix_text, step_text, binary_text, assignment_text, IsName}

-- The levels, from the loosest: 0 with commas, 1 an assignment, 2 a choice, 3 to 12 the binary operators, 13 a sign, 14 an operand.
abbrev pub tier : BinaryOp → ℕ
tier op.LogicOr = 3
tier op.LogicAnd = 4
tier op.BitOr = 5
tier op.BitXor = 6
tier op.BitAnd = 7
tier op.Equal = 8
tier op.NotEqual = 8
tier op.Less = 9
tier op.Greater = 9
tier op.AtMost = 9
tier op.AtLeast = 9
tier op.ShiftLeft = 10
tier op.ShiftRight = 10
tier op.Plus = 11
tier op.Minus = 11
tier op.Times = 12
tier op.Divide = 12
tier op.Remainder = 12

-- an operator that may stand before an equals sign
abbrev pub may_assign : AssignOp → Bool
may_assign assignment.Plain = true
may_assign (assignment.With op.LogicOr) = false
may_assign (assignment.With op.LogicAnd) = false
may_assign (assignment.With op.Equal) = false
may_assign (assignment.With op.NotEqual) = false
may_assign (assignment.With op.Less) = false
may_assign (assignment.With op.Greater) = false
may_assign (assignment.With op.AtMost) = false
may_assign (assignment.With op.AtLeast) = false
may_assign (assignment.With o) = true

-- a name, or an array's cell, in any number of brackets
abbrev pub lvalue_step : Expr-F Bool → Bool
lvalue_step (Expr-F.Name p c) = true
lvalue_step (Expr-F.Index p c x) = true
lvalue_step (Expr-F.Bracket p x) = x
lvalue_step _ = false

unfoldable pub is_lvalue : Expr → Bool
is_lvalue = fold-Expr Bool lvalue_step

-- the words of a type
pub data IsType : List Token → TypeWord → Type 0 where
  int : (p : Place) → IsType (word (codes "int") p ∷ []) type.Int
  signed : (p : Place) → IsType (word (codes "signed") p ∷ []) type.Int
  signed_int : (p q : Place) → IsType (word (codes "signed") p ∷ word (codes "int") q ∷ []) type.Int
  unsigned : (p : Place) → IsType (word (codes "unsigned") p ∷ []) type.Uint
  unsigned_int : (p q : Place) → IsType (word (codes "unsigned") p ∷ word (codes "int") q ∷ []) type.Uint
  void : (p : Place) → IsType (word (codes "void") p ∷ []) type.Void
  pointer : (p q : Place) → IsType (word (codes "void") p ∷ mark (codes "*") q ∷ []) type.VoidPointer
  thread : (p : Place) → IsType (word (codes "pthread_t") p ∷ []) type.Thread
  mutex : (p : Place) → IsType (word (codes "pthread_mutex_t") p ∷ []) type.Mutex
  cond : (p : Place) → IsType (word (codes "pthread_cond_t") p ∷ []) type.Cond

-- the value of a number's text; a text that spells no value is no token of a list that is read, and has 0
abbrev pub value_in : List ℕ → ℕ
value_in c = unwrap_or (number_value c) 0

-- one text after another
abbrev pub AreTexts : List Token → Type 0
AreTexts [] = Unit {0}
AreTexts (t ∷ ts) = (t.kind ≡ Text) × AreTexts ts

-- The grammar of expressions. Reads f n list tree: the list is a text of level f or tighter, its tree is this one, and
-- at most n nodes with children lie on one way down. ReadsArgument and ReadsArguments: the same of one argument, and of
-- arguments with commas between.
mutual
  pub data Reads : ℕ → ℕ → List Token → Expr → Type 0 where
    name : {f n : ℕ} {p : Place} {c : List ℕ} → IsName c → Reads f n (word c p ∷ []) (e.Name p c)
    number : {f n : ℕ} {p : Place} {c : List ℕ} → Reads f n (record { kind = Number; place = p; text = c } ∷ []) (e.Number p (value_in c) (is_unsigned c (value_in c)))
    bracket : {f n : ℕ} {p : Place} (q : Place) {a : List Token} {x : Expr} → Reads 0 n a x
        → Reads f (suc n) (mark (codes "(") p ∷ (a ++ mark (codes ")") q ∷ [])) (e.Bracket p x)
    index : {f n : ℕ} {p : Place} (q r : Place) {c : List ℕ} {a : List Token} {x : Expr} → IsName c → Reads 0 n a x
        → Reads f (suc n) (word c p ∷ mark (codes "[") q ∷ (a ++ mark (codes "]") r ∷ [])) (e.Index p c x)
    call : {f n : ℕ} {p : Place} (q r : Place) {c : List ℕ} {a : List Token} {xs : List Expr} → IsName c → ReadsArguments n a xs
        → Reads f (suc n) (word c p ∷ mark (codes "(") q ∷ (a ++ mark (codes ")") r ∷ [])) (e.Call p c xs)
    cast : {f n : ℕ} {p : Place} (q : Place) {kind : TypeWord} {a b : List Token} {x : Expr} → f ≤ 13 → IsType a kind → Reads 13 n b x
        → Reads f (suc n) (mark (codes "(") p ∷ (a ++ mark (codes ")") q ∷ b)) (e.Cast p kind x)
    prefix : {f n : ℕ} {p : Place} {o : UnaryOp} {a : List Token} {x : Expr} → f ≤ 13 → Reads 13 n a x
        → Reads f (suc n) (mark (prefix_text o) p ∷ a) (e.Unary p o x)
    step_before : {f n : ℕ} {p : Place} {o : StepOp} {a : List Token} {x : Expr} → f ≤ 13 → IsTrue (is_lvalue x) → Reads 14 n a x
        → Reads f (suc n) (mark (step_text o) p ∷ a) (e.StepBefore p o x)
    step_after : {f n : ℕ} {p : Place} {o : StepOp} {a : List Token} {x : Expr} → f ≤ 13 → IsTrue (is_lvalue x) → Reads 14 n a x
        → Reads f (suc n) (a ++ mark (step_text o) p ∷ []) (e.StepAfter p o x)
    binary : {f n : ℕ} {p : Place} {o : BinaryOp} {a b : List Token} {x y : Expr} → f ≤ tier o → Reads (tier o) n a x → Reads (suc (tier o)) n b y
        → Reads f (suc n) (a ++ mark (binary_text o) p ∷ b) (e.Binary p o x y)
    choose : {f n : ℕ} {p : Place} (q : Place) {a b c : List Token} {x y z : Expr} → f ≤ 2 → Reads 3 n a x → Reads 0 n b y → Reads 2 n c z
        → Reads f (suc n) (a ++ mark (codes "?") p ∷ (b ++ mark (codes ":") q ∷ c)) (e.Choose p x y z)
    assign : {f n : ℕ} {p : Place} {o : AssignOp} {a b : List Token} {x y : Expr} → f ≤ 1 → IsTrue (may_assign o) → IsTrue (is_lvalue x) → Reads 14 n a x → Reads 1 n b y
        → Reads f (suc n) (a ++ mark (assignment_text o) p ∷ b) (e.Assign p o x y)
    comma : {f n : ℕ} {p : Place} {a b : List Token} {x y : Expr} → f ≤ 0 → Reads 0 n a x → Reads 1 n b y
        → Reads f (suc n) (a ++ mark (codes ",") p ∷ b) (e.Comma p x y)

  pub data ReadsArgument : ℕ → List Token → Expr → Type 0 where
    value : {n : ℕ} {a : List Token} {x : Expr} → Reads 1 n a x → ReadsArgument n a x
    address : {n : ℕ} {p : Place} {a : List Token} {x : Expr} → IsTrue (is_lvalue x) → Reads 14 n a x → ReadsArgument (suc n) (mark (codes "&") p ∷ a) (e.Address p x)
    text : {n : ℕ} {t : Token} {ts : List Token} → AreTexts (t ∷ ts) → ReadsArgument n (t ∷ ts) (e.Text t.place)

  pub data ReadsArguments : ℕ → List Token → List Expr → Type 0 where
    no_argument : {n : ℕ} → ReadsArguments n [] []
    one_argument : {n : ℕ} {a : List Token} {x : Expr} → ReadsArgument n a x → ReadsArguments n a (x ∷ [])
    more_arguments : {n : ℕ} (p : Place) {a b : List Token} {x y : Expr} {xs : List Expr} → ReadsArgument n a x → ReadsArguments n b (y ∷ xs)
        → ReadsArguments n (a ++ mark (codes ",") p ∷ b) (x ∷ y ∷ xs)

-- some text of level f with at most n nodes on one way down begins so
abbrev pub Begins : ℕ → ℕ → List Token → Type 0
Begins f n list = (rest : List Token) × (x : Expr) × Reads f n (list ++ rest) x

-- The longest run of tokens at the front of the list with which some text of level f begins.
pub record IsLongestRun (f n : ℕ) (list run rest : List Token) : Type 0 where
  pub all : run ++ rest ≡ list
  pub begins : Begins f n run
  pub ends : (t : Token) (more : List Token) → rest ≡ t ∷ more → Begins f n (run ++ t ∷ []) → ⊥

-- the longest run is itself a text, of this tree
abbrev pub Parses : ℕ → ℕ → List Token → Expr → List Token → Type 0
Parses f n list x rest = (run : List Token) × IsLongestRun f n list run rest × Reads f n run x

-- the longest run is no text
abbrev pub Refuses : ℕ → ℕ → List Token → List Token → Type 0
Refuses f n list rest = (run : List Token) × IsLongestRun f n list run rest × ((x : Expr) → Reads f n run x → ⊥)

-- a list has at most one tree
abbrev pub OneTree : Type 0
OneTree = (f n : ℕ) (list : List Token) (x y : Expr) → f ≤ 2 → Reads f n list x → Reads f n list y → x ≡ y

-- a list has at most one longest run
abbrev pub OneRun : Type 0
OneRun = (f n : ℕ) (list a b s t : List Token) → IsLongestRun f n list a s → IsLongestRun f n list b t → (a ≡ b) × (s ≡ t)
