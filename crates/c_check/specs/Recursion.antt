-- Recursion: calls and creates lead from a function back to it.
use Rattle.std.specs.Prelude.{◌≡◌, ℕ, ◌+◌, ◌<◌, List, [], ◌∷◌, ◌++◌, map, cond, slice_get, Option, Some, None}
use Rattle.std.specs.Str.{bytes_eq}
use Rattle.std.specs.List.{Contains}
use Rattle.dg_base.specs.declared.Place.{Place}
use Rattle.c_tree.specs.declared.expr.Expr.{Expr, fold-Expr, map-Expr}
use Rattle.c_tree.specs.declared.expr.Expr.TheOpen.{Expr-F}
use Rattle.c_tree.specs.declared.stmt.Initialiser.{Initialiser}
use Rattle.c_tree.specs.declared.stmt.Initialiser.TheVariants.{One, Braces}
use Rattle.c_tree.specs.declared.stmt.Declarator.{Declarator}
use Rattle.c_tree.specs.declared.stmt.Start.{Start}
use Rattle.c_tree.specs.declared.stmt.Start.TheVariants as start
use Rattle.c_tree.specs.declared.stmt.Stmt.{Stmt, fold-Stmt}
use Rattle.c_tree.specs.declared.stmt.Stmt.TheOpen.{Stmt-F}
use Rattle.c_tree.specs.declared.program.Function.{Function}
use Rattle.c_tree.specs.declared.program.Item.{Item}
use Rattle.c_tree.specs.declared.program.Item.TheVariants as item
use Rattle.c_rules.specs.Names.{Name}
use Rattle.c_rules.specs.Routines.{Naming, naming_step, created_by}

-- what an expression calls or creates threads of, and what it names
pub record Called : Type 0 where
  pub names : List Name
  pub naming : Naming

abbrev pub names_in : Option Name → List Name
names_in None = []
names_in (Some n) = n ∷ []

abbrev pub namings : List Called → List Naming
namings [] = []
namings (x ∷ xs) = x.naming ∷ namings xs

abbrev pub all_called : List Called → List Name
all_called [] = []
all_called (x ∷ xs) = x.names ++ all_called xs

-- the names that an expression calls or creates threads of, from its parts
abbrev pub called_names : Expr-F Called → List Name
called_names (Expr-F.Name p n) = []
called_names (Expr-F.Number p v u) = []
called_names (Expr-F.Text p) = []
called_names (Expr-F.Bracket p x) = x.names
called_names (Expr-F.Index p n x) = x.names
called_names (Expr-F.Call p n xs) = all_called xs ++ (n ∷ names_in (created_by n (namings xs)))
called_names (Expr-F.Cast p w x) = x.names
called_names (Expr-F.Unary p o x) = x.names
called_names (Expr-F.StepBefore p o x) = x.names
called_names (Expr-F.StepAfter p o x) = x.names
called_names (Expr-F.Binary p o x y) = x.names ++ y.names
called_names (Expr-F.Choose p x y z) = x.names ++ (y.names ++ z.names)
called_names (Expr-F.Assign p o x y) = x.names ++ y.names
called_names (Expr-F.Comma p x y) = x.names ++ y.names
called_names (Expr-F.Address p x) = x.names

abbrev pub called_step : Expr-F Called → Called
called_step l = record { names = called_names l; naming = naming_step (map-Expr Called Naming (λ (x : Called). x.naming) l) }

abbrev pub called : Expr → Called
called = fold-Expr Called called_step

-- the names that an expression calls, and those of the functions that it creates threads of
abbrev pub called_in : Expr → List Name
called_in x = (called x).names

abbrev pub called_in_option : Option Expr → List Name
called_in_option None = []
called_in_option (Some x) = called_in x

abbrev pub called_in_start : Option Initialiser → List Name
called_in_start None = []
called_in_start (Some (One x)) = called_in x
called_in_start (Some (Braces xs)) = all_called (map called xs)

abbrev pub called_in_declarators : List Declarator → List Name
called_in_declarators [] = []
called_in_declarators (d ∷ ds) = called_in_option d.size ++ (called_in_start d.initialiser ++ called_in_declarators ds)

abbrev pub called_in_for : Start → List Name
called_in_for start.Nothing = []
called_in_for (start.Expr x) = called_in x
called_in_for (start.Declare d) = called_in_declarators d.declarators

abbrev pub called_in_else : Option (List Name) → List Name
called_in_else None = []
called_in_else (Some ns) = ns

abbrev pub in_all : List (List Name) → List Name
in_all [] = []
in_all (ns ∷ nss) = ns ++ in_all nss

abbrev pub calls_step : Stmt-F (List Name) → List Name
calls_step (Stmt-F.Empty p) = []
calls_step (Stmt-F.Expr p x) = called_in x
calls_step (Stmt-F.Declare d) = called_in_declarators d.declarators
calls_step (Stmt-F.Block p xs) = in_all xs
calls_step (Stmt-F.Label p n x) = x
calls_step (Stmt-F.If p t a b) = called_in t ++ (a ++ called_in_else b)
calls_step (Stmt-F.While p t x) = called_in t ++ x
calls_step (Stmt-F.DoWhile p x t) = x ++ called_in t
calls_step (Stmt-F.For p st t e x) = called_in_for st ++ (called_in_option t ++ (called_in_option e ++ x))
calls_step (Stmt-F.Return p x) = called_in_option x
calls_step (Stmt-F.Break p) = []
calls_step (Stmt-F.Continue p) = []

abbrev pub called_in_stmt : Stmt → List Name
called_in_stmt = fold-Stmt (List Name) calls_step

-- the names that a function's body calls or creates threads of
abbrev pub called_by : Function → List Name
called_by f = in_all (map called_in_stmt f.body)

-- the number, counting from i, of the function with a body that a name stands for among these items
abbrev pub number_from : ℕ → List Item → Name → Option ℕ
number_from i [] n = None
number_from i (item.Function f ∷ xs) n = cond (bytes_eq f.name n) (Some i) (number_from (i + 1) xs n)
number_from i (item.Prototype p w m ∷ xs) n = number_from (i + 1) xs n
number_from i (item.Shared d ∷ xs) n = number_from (i + 1) xs n

-- the number among the items, from 0, of the function with a body that a name stands for
abbrev pub number_of : List Item → Name → Option ℕ
number_of items n = number_from 0 items n

-- the item i is a function that calls or creates a thread of the item j
pub record Calls (items : List Item) (i j : ℕ) : Type 0 where
  pub caller : Function
  pub stands : slice_get items i ≡ Some (item.Function caller)
  pub name : Name
  pub called : Contains (called_by caller) name
  pub callee : number_of items name ≡ Some j

-- calls and creates lead from the item i to the item j
pub data Leads (items : List Item) : ℕ → ℕ → Type 0 where
  at_once : {i j : ℕ} → Calls items i j → Leads items i j
  over : {i m j : ℕ} → Calls items i m → Leads items m j → Leads items i j

-- from no function do they lead back to it
abbrev pub NoRecursion : List Item → Type 0
NoRecursion items = (i : ℕ) → Leads items i i → ⊥

-- the place is the name of the first function of the text from which calls and creates lead back to it
pub record IsFirstRecursive (items : List Item) (place : Place) : Type 0 where
  pub number : ℕ
  pub function : Function
  pub stands : slice_get items number ≡ Some (item.Function function)
  pub recursive : Leads items number number
  pub first : (i : ℕ) → i < number → Leads items i i → ⊥
  pub is : function.place ≡ place
