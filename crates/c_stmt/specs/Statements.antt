-- Which lists of tokens are statements, and of which tree.
use Rattle.std.specs.Prelude.{◌≡◌, ℕ, suc, Bool, true, false, List, [], ◌∷◌, ◌++◌, Option, Some, None, codes}
use Rattle.dg_base.specs.declared.Place.{Place}
use Rattle.c_tree.specs.declared.expr.Expr.{Expr}
use Rattle.c_tree.specs.declared.stmt.Decl.{Decl}
use Rattle.c_tree.specs.declared.stmt.Start.{Start}
use Rattle.c_tree.specs.declared.stmt.Start.TheVariants as start
use Rattle.c_tree.specs.declared.stmt.Stmt.{Stmt, fold-Stmt}
use Rattle.c_tree.specs.declared.stmt.Stmt.TheVariants as s
use Rattle.c_tree.specs.declared.stmt.Stmt.TheOpen.{Stmt-F}
use Rattle.token_list.specs.declared.Token.{Token}
use Rattle.c_expr.specs.Words.{mark, word, IsName}
use Rattle.c_expr.specs.Expressions.{Reads}
use Rattle.c_stmt.specs.Declarations.{ReadsOption, ReadsDeclaration}

-- whether a statement ends in an `if` that an `else` behind it would belong to
abbrev pub ends_open_step : Stmt-F Bool → Bool
ends_open_step (Stmt-F.If p x a None) = true
ends_open_step (Stmt-F.If p x a (Some b)) = b
ends_open_step (Stmt-F.While p x a) = a
ends_open_step (Stmt-F.For p st x y a) = a
ends_open_step (Stmt-F.Label p c a) = a
ends_open_step _ = false

unfoldable pub ends_open : Stmt → Bool
ends_open = fold-Stmt Bool ends_open_step

-- how a `for` begins, with its `;`
pub data ReadsStart : ℕ → List Token → Start → Type 0 where
  nothing : {n : ℕ} (p : Place) → ReadsStart n (mark (codes ";") p ∷ []) start.Nothing
  expr_start : {n : ℕ} (p : Place) {a : List Token} {x : Expr} → Reads 0 n a x → ReadsStart n (a ++ mark (codes ";") p ∷ []) (start.Expr x)
  declare : {n : ℕ} {a : List Token} {d : Decl} → ReadsDeclaration n a d → ReadsStart n a (start.Declare d)

-- The grammar of statements: the list, the tree, and at most n nodes with children on one way down. An `else` belongs to
-- the nearest `if`: no statement between an `if` and its `else` ends in an `if` without one.
mutual
  pub data ReadsStmt : ℕ → List Token → Stmt → Type 0 where
    empty : {n : ℕ} {p : Place} → ReadsStmt n (mark (codes ";") p ∷ []) (s.Empty p)
    expr : {n : ℕ} (q : Place) {t : Token} {a : List Token} {x : Expr} → Reads 0 n (t ∷ a) x → ReadsStmt (suc n) (t ∷ (a ++ mark (codes ";") q ∷ [])) (s.Expr t.place x)
    block : {n : ℕ} {p : Place} (q : Place) {a : List Token} {xs : List Stmt} → ReadsBlock n a xs → ReadsStmt (suc n) (mark (codes "{") p ∷ (a ++ mark (codes "}") q ∷ [])) (s.Block p xs)
    label : {n : ℕ} {p : Place} (q : Place) {c : List ℕ} {a : List Token} {x : Stmt} → IsName c → ReadsStmt n a x → ReadsStmt (suc n) (word c p ∷ mark (codes ":") q ∷ a) (s.Label p c x)
    if_only : {n : ℕ} {p : Place} (q r : Place) {a b : List Token} {x : Expr} {y : Stmt} → Reads 0 n a x → ReadsStmt n b y
        → ReadsStmt (suc n) (word (codes "if") p ∷ mark (codes "(") q ∷ (a ++ mark (codes ")") r ∷ b)) (s.If p x y None)
    if_else : {n : ℕ} {p : Place} (q r t : Place) {a b c : List Token} {x : Expr} {y z : Stmt} → Reads 0 n a x → ReadsStmt n b y → ends_open y ≡ false → ReadsStmt n c z
        → ReadsStmt (suc n) (word (codes "if") p ∷ mark (codes "(") q ∷ (a ++ mark (codes ")") r ∷ (b ++ word (codes "else") t ∷ c))) (s.If p x y (Some z))
    while : {n : ℕ} {p : Place} (q r : Place) {a b : List Token} {x : Expr} {y : Stmt} → Reads 0 n a x → ReadsStmt n b y
        → ReadsStmt (suc n) (word (codes "while") p ∷ mark (codes "(") q ∷ (a ++ mark (codes ")") r ∷ b)) (s.While p x y)
    do_while : {n : ℕ} {p : Place} (q r t u : Place) {a b : List Token} {x : Expr} {y : Stmt} → ReadsStmt n b y → Reads 0 n a x
        → ReadsStmt (suc n) (word (codes "do") p ∷ (b ++ word (codes "while") q ∷ mark (codes "(") r ∷ (a ++ mark (codes ")") t ∷ mark (codes ";") u ∷ []))) (s.DoWhile p y x)
    for : {n : ℕ} {p : Place} (q r t : Place) {a b c d : List Token} {begin : Start} {x y : Option Expr} {z : Stmt} → ReadsStart n a begin → ReadsOption n b x → ReadsOption n c y → ReadsStmt n d z
        → ReadsStmt (suc n) (word (codes "for") p ∷ mark (codes "(") q ∷ (a ++ (b ++ mark (codes ";") r ∷ (c ++ mark (codes ")") t ∷ d)))) (s.For p begin x y z)
    return : {n : ℕ} {p : Place} (q : Place) {a : List Token} {x : Option Expr} → ReadsOption n a x → ReadsStmt (suc n) (word (codes "return") p ∷ (a ++ mark (codes ";") q ∷ [])) (s.Return p x)
    break : {n : ℕ} {p : Place} (q : Place) → ReadsStmt (suc n) (word (codes "break") p ∷ mark (codes ";") q ∷ []) (s.Break p)
    continue : {n : ℕ} {p : Place} (q : Place) → ReadsStmt (suc n) (word (codes "continue") p ∷ mark (codes ";") q ∷ []) (s.Continue p)

  -- what stands in a block
  pub data ReadsBlock : ℕ → List Token → List Stmt → Type 0 where
    no_more : {n : ℕ} → ReadsBlock n [] []
    a_declaration : {n : ℕ} {a b : List Token} {d : Decl} {xs : List Stmt} → ReadsDeclaration n a d → ReadsBlock n b xs → ReadsBlock n (a ++ b) (s.Declare d ∷ xs)
    a_statement : {n : ℕ} {a b : List Token} {x : Stmt} {xs : List Stmt} → ReadsStmt n a x → ReadsBlock n b xs → ReadsBlock n (a ++ b) (x ∷ xs)
