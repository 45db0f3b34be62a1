-- The constants of functions, and the names that they call.
use Rattle.std.specs.Prelude.{ℕ, List, [], ◌∷◌, ◌++◌, map, Option, Some, None}
use Rattle.c_tree.specs.declared.expr.Expr.{Expr, fold-Expr}
use Rattle.c_tree.specs.declared.expr.Expr.TheOpen.{Expr-F}
use Rattle.c_tree.specs.declared.stmt.Initialiser.{Initialiser}
use Rattle.c_tree.specs.declared.stmt.Initialiser.TheVariants.{One, Braces}
use Rattle.c_tree.specs.declared.stmt.Declarator.{Declarator}
use Rattle.c_tree.specs.declared.stmt.Start.{Start}
use Rattle.c_tree.specs.declared.stmt.Start.TheVariants as start
use Rattle.c_tree.specs.declared.stmt.Stmt.{Stmt, fold-Stmt}
use Rattle.c_tree.specs.declared.stmt.Stmt.TheOpen.{Stmt-F}
use Rattle.c_tree.specs.declared.program.Function.{Function}
use Rattle.c_rules.specs.Names.{Name}

pub data Leaf : Type 0 where
  Value : ℕ → Leaf
  Called : Name → Leaf

abbrev pub in_all : List (List Leaf) → List Leaf
in_all [] = []
in_all (ns ∷ nss) = ns ++ in_all nss

-- the leaves of an expression, from those of its parts
abbrev pub leaves_step : Expr-F (List Leaf) → List Leaf
leaves_step (Expr-F.Name p n) = []
leaves_step (Expr-F.Number p v u) = Value v ∷ []
leaves_step (Expr-F.Text p) = []
leaves_step (Expr-F.Bracket p x) = x
leaves_step (Expr-F.Index p n x) = x
leaves_step (Expr-F.Call p n xs) = Called n ∷ in_all xs
leaves_step (Expr-F.Cast p w x) = x
leaves_step (Expr-F.Unary p o x) = x
leaves_step (Expr-F.StepBefore p o x) = x
leaves_step (Expr-F.StepAfter p o x) = x
leaves_step (Expr-F.Binary p o x y) = x ++ y
leaves_step (Expr-F.Choose p x y z) = x ++ (y ++ z)
leaves_step (Expr-F.Assign p o x y) = x ++ y
leaves_step (Expr-F.Comma p x y) = x ++ y
leaves_step (Expr-F.Address p x) = x

abbrev pub leaves : Expr → List Leaf
leaves = fold-Expr (List Leaf) leaves_step

abbrev pub in_option : Option Expr → List Leaf
in_option None = []
in_option (Some x) = leaves x

abbrev pub in_start : Option Initialiser → List Leaf
in_start None = []
in_start (Some (One x)) = leaves x
in_start (Some (Braces xs)) = in_all (map leaves xs)

-- the number of cells of an array is no value
abbrev pub in_declarators : List Declarator → List Leaf
in_declarators [] = []
in_declarators (d ∷ ds) = in_start d.initialiser ++ in_declarators ds

abbrev pub in_for : Start → List Leaf
in_for start.Nothing = []
in_for (start.Expr x) = leaves x
in_for (start.Declare d) = in_declarators d.declarators

abbrev pub in_else : Option (List Leaf) → List Leaf
in_else None = []
in_else (Some ns) = ns

-- the leaves of a statement, from those of its parts
abbrev pub stmt_leaves : Stmt-F (List Leaf) → List Leaf
stmt_leaves (Stmt-F.Empty p) = []
stmt_leaves (Stmt-F.Expr p x) = leaves x
stmt_leaves (Stmt-F.Declare d) = in_declarators d.declarators
stmt_leaves (Stmt-F.Block p xs) = in_all xs
stmt_leaves (Stmt-F.Label p n x) = x
stmt_leaves (Stmt-F.If p t a b) = leaves t ++ (a ++ in_else b)
stmt_leaves (Stmt-F.While p t x) = leaves t ++ x
stmt_leaves (Stmt-F.DoWhile p x t) = x ++ leaves t
stmt_leaves (Stmt-F.For p st t e x) = in_for st ++ (in_option t ++ (in_option e ++ x))
stmt_leaves (Stmt-F.Return p x) = in_option x
stmt_leaves (Stmt-F.Break p) = []
stmt_leaves (Stmt-F.Continue p) = []

abbrev pub in_stmt : Stmt → List Leaf
in_stmt = fold-Stmt (List Leaf) stmt_leaves

-- the leaves of a function's body
abbrev pub in_body : Function → List Leaf
in_body f = in_all (map in_stmt f.body)

abbrev pub in_functions : List Function → List Leaf
in_functions [] = []
in_functions (f ∷ fs) = in_body f ++ in_functions fs
