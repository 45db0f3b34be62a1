-- What an expression names: a variable or a function by itself, and the function of a new thread. Walks over expressions that
-- need the function that an argument names carry the naming of each part, and make it by `naming_step`.
use Rattle.std.specs.Prelude.{ℕ, List, ◌∷◌, Option, Some, None, cond, codes}
use Rattle.std.specs.Str.{bytes_eq}
use Rattle.c_tree.specs.declared.expr.Expr.{Expr, fold-Expr}
use Rattle.c_tree.specs.declared.expr.Expr.TheOpen.{Expr-F}
use Rattle.c_rules.specs.Names.{Name}

-- the name that an expression is in any brackets; the function of a new thread, which it names alone or behind `&`
pub record Naming : Type 0 where
  pub plain : Option Name
  pub routine : Option Name

abbrev pub names_nothing : Naming
names_nothing = record { plain = None; routine = None }

-- what an expression names, by what its parts name
abbrev pub naming_step : Expr-F Naming → Naming
naming_step (Expr-F.Name p n) = record { plain = Some n; routine = Some n }
naming_step (Expr-F.Bracket p x) = record { plain = x.plain; routine = None }
naming_step (Expr-F.Address p x) = record { plain = None; routine = x.plain }
naming_step _ = names_nothing

abbrev pub naming : Expr → Naming
naming = fold-Expr Naming naming_step

-- the name that an expression is, in any brackets
abbrev pub plain_name : Expr → Option Name
plain_name x = (naming x).plain

-- the function that the third argument of pthread_create names, alone or behind `&`
abbrev pub routine_name : Expr → Option Name
routine_name x = (naming x).routine

-- the function that the third of these arguments names
abbrev pub third_routine : List Naming → Option Name
third_routine (v ∷ w ∷ f ∷ xs) = f.routine
third_routine _ = None

-- the function of the thread that a call makes, by what its arguments name, if it is one of pthread_create
abbrev pub created_by : Name → List Naming → Option Name
created_by n xs = cond (bytes_eq (codes "pthread_create") n) (third_routine xs) None
