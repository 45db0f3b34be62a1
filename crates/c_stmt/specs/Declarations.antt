-- Which lists of tokens are declarations, and of which tree.
use Rattle.std.specs.Prelude.{ℕ, suc, List, [], ◌∷◌, ◌++◌, Option, Some, None, codes}
use Rattle.dg_base.specs.declared.Place.{Place}
use Rattle.c_tree.specs.declared.expr.TypeWord.{TypeWord}
use Rattle.c_tree.specs.declared.expr.Expr.{Expr}
use Rattle.c_tree.specs.declared.stmt.Initialiser.{Initialiser}
use Rattle.c_tree.specs.declared.stmt.Initialiser.TheVariants as i
use Rattle.c_tree.specs.declared.stmt.Declarator.{Declarator}
use Rattle.c_tree.specs.declared.stmt.Decl.{Decl}
use Rattle.token_list.specs.declared.Token.{Token}
use Rattle.c_expr.specs.Words.{mark, word, IsName}
use Rattle.c_expr.specs.Expressions.{Reads, IsType}

-- In each relation n is the number of nodes with children that may lie on one way down.

-- an optional expression
pub data ReadsOption : ℕ → List Token → Option Expr → Type 0 where
  none : {n : ℕ} → ReadsOption n [] None
  some : {n : ℕ} {a : List Token} {x : Expr} → Reads 0 n a x → ReadsOption n a (Some x)

-- values in braces, with commas between and perhaps one behind
pub data ReadsValues : ℕ → List Token → List Expr → Type 0 where
  last : {n : ℕ} {a : List Token} {x : Expr} → Reads 1 n a x → ReadsValues n a (x ∷ [])
  last_comma : {n : ℕ} (p : Place) {a : List Token} {x : Expr} → Reads 1 n a x → ReadsValues n (a ++ mark (codes ",") p ∷ []) (x ∷ [])
  further : {n : ℕ} (p : Place) {a b : List Token} {x y : Expr} {xs : List Expr} → Reads 1 n a x → ReadsValues n b (y ∷ xs) → ReadsValues n (a ++ mark (codes ",") p ∷ b) (x ∷ y ∷ xs)

-- the size of an array
pub data ReadsSize : ℕ → List Token → Option Expr → Type 0 where
  scalar : {n : ℕ} → ReadsSize n [] None
  array : {n : ℕ} (p q : Place) {a : List Token} {x : Expr} → Reads 2 n a x → ReadsSize n (mark (codes "[") p ∷ (a ++ mark (codes "]") q ∷ [])) (Some x)

-- what a variable begins with
pub data ReadsInitialiser : ℕ → List Token → Option Initialiser → Type 0 where
  absent : {n : ℕ} → ReadsInitialiser n [] None
  one : {n : ℕ} (p : Place) {a : List Token} {x : Expr} → Reads 1 n a x → ReadsInitialiser n (mark (codes "=") p ∷ a) (Some (i.One x))
  braces : {n : ℕ} (p q r : Place) {a : List Token} {xs : List Expr} → ReadsValues n a xs
      → ReadsInitialiser n (mark (codes "=") p ∷ mark (codes "{") q ∷ (a ++ mark (codes "}") r ∷ [])) (Some (i.Braces xs))

-- a declarator is a node
pub data ReadsDeclarator : ℕ → List Token → Declarator → Type 0 where
  declarator : {n : ℕ} {p : Place} {c : List ℕ} {a b : List Token} {size : Option Expr} {first : Option Initialiser} → IsName c → ReadsSize n a size → ReadsInitialiser n b first
      → ReadsDeclarator (suc n) (word c p ∷ (a ++ b)) (record { place = p; name = c; size = size; initialiser = first })

-- declarators with commas between
pub data ReadsDeclarators : ℕ → List Token → List Declarator → Type 0 where
  last_declarator : {n : ℕ} {a : List Token} {d : Declarator} → ReadsDeclarator n a d → ReadsDeclarators n a (d ∷ [])
  next_declarator : {n : ℕ} (q : Place) {a b : List Token} {d e : Declarator} {ds : List Declarator} → ReadsDeclarator n a d → ReadsDeclarators n b (e ∷ ds)
      → ReadsDeclarators n (a ++ mark (codes ",") q ∷ b) (d ∷ e ∷ ds)

-- a type, its declarators and a semicolon
pub data ReadsDeclaration : ℕ → List Token → Decl → Type 0 where
  declaration : {n : ℕ} (q : Place) {a b : List Token} {k : TypeWord} {ds : List Declarator} → IsType a k → ReadsDeclarators n b ds
      → ReadsDeclaration n (a ++ (b ++ mark (codes ";") q ∷ [])) (record { word = k; declarators = ds })
