-- Names are declared once in each scope, and each name that is used is known. What is found is the first place, in the order
-- of the text, where that is broken.
use Rattle.std.specs.Prelude.{List, [], ◌∷◌, ◌++◌, map, Bool, true, false, ◌&&◌, ◌||◌, not, cond, Option, Some, None, codes}
use Rattle.std.specs.Str.{bytes_eq}
use Rattle.dg_base.specs.declared.Place.{Place}
use Rattle.c_tree.specs.declared.expr.TypeWord.{TypeWord}
use Rattle.c_tree.specs.declared.expr.TypeWord.TheVariants as type
use Rattle.c_tree.specs.declared.expr.Expr.{Expr, fold-Expr}
use Rattle.c_tree.specs.declared.expr.Expr.TheOpen.{Expr-F}
use Rattle.c_tree.specs.declared.stmt.Initialiser.{Initialiser}
use Rattle.c_tree.specs.declared.stmt.Initialiser.TheVariants.{One, Braces}
use Rattle.c_tree.specs.declared.stmt.Declarator.{Declarator}
use Rattle.c_tree.specs.declared.program.Param.{Param}
use Rattle.c_tree.specs.declared.program.Function.{Function}
use Rattle.c_tree.specs.declared.program.Program.{Program}
use Rattle.c_rules.specs.Names.{Name, or_else, is_some, Scope, own_entries, is_declared, variable_named, function_named, functions_of, builtin_named, may_be_defined}
use Rattle.c_rules.specs.Walk.{Walk, walk_program, declare}

-- the first place where a rule is broken, if it is broken
abbrev pub First : Type 0
First = Option Place

-- broken here, unless the test holds
abbrev pub unless : Bool → Place → First
unless holds p = cond holds None (Some p)

abbrev pub first_of : List First → First
first_of [] = None
first_of (x ∷ xs) = or_else x (first_of xs)

-- What a rule finds broken at an expression as a statement, at one whose value is used, at a returned value, at a `break` or
-- `continue`, at a declarator (in the scope before it), and at a function's name and parameters.
pub record Rules : Type 0 where
  pub effect : Scope → Expr → First
  pub value : Scope → Expr → First
  pub returned : Scope → Place → Expr → First
  pub jump : Scope → Place → First
  pub declarator : Scope → TypeWord → Declarator → First
  pub head : Scope → Function → First

-- the walk that finds the first place where a rule is broken
abbrev pub rule_walk : Rules → Walk First
rule_walk r = record {
  nothing = None;
  both = or_else;
  turns = λ x. x;
  tests = λ x. x;
  effect = r.effect;
  value = r.value;
  test = r.value;
  no_test = None;
  returned = r.returned;
  jump = r.jump;
  declarator = r.declarator;
  head = r.head;
}

abbrev pub is_param : List Param → Name → Bool
is_param [] n = false
is_param (p ∷ ps) n = bytes_eq p.name n || is_param ps n

-- the first parameter that has the name of one before it
abbrev pub repeated_param : List Param → List Param → First
repeated_param before [] = None
repeated_param before (p ∷ ps) = or_else (unless (not (is_param before p.name)) p.place) (repeated_param (before ++ p ∷ []) ps)

-- a function's name is new at the top, and is not that of a built-in call, but for the two that a program may define
abbrev pub may_name_function : Scope → Name → Bool
may_name_function s n = not (is_declared (own_entries s) n) && (not (is_some (builtin_named n)) || may_be_defined n)

abbrev pub once_rules : Rules
once_rules = record {
  effect = λ s x. None;
  value = λ s x. None;
  returned = λ s p x. None;
  jump = λ s p. None;
  declarator = λ s w d. unless (not (is_declared (own_entries s) d.name)) d.place;
  head = λ s f. or_else (unless (may_name_function s f.name) f.place) (repeated_param [] f.params);
}

-- the first name that is declared a second time in its scope
abbrev pub first_duplicate : Program → First
first_duplicate program = walk_program (rule_walk once_rules) program

-- what a mutex may begin with
abbrev pub mutex_start : Name
mutex_start = codes "PTHREAD_MUTEX_INITIALIZER"

-- a name is known where it stands for a variable in scope, a function with a body or a built-in call; in the initialiser of a
-- mutex one more is
abbrev pub is_known : List Function → Scope → Bool → Name → Bool
is_known functions s starts_mutex n =
    is_some (variable_named s n) || (is_some (function_named functions n) || (is_some (builtin_named n) || (starts_mutex && bytes_eq mutex_start n)))

-- the first name of an expression that is not known, from left to right
abbrev pub unknown_step : (Name → Bool) → Expr-F First → First
unknown_step known (Expr-F.Name p n) = unless (known n) p
unknown_step known (Expr-F.Number p v u) = None
unknown_step known (Expr-F.Text p) = None
unknown_step known (Expr-F.Bracket p x) = x
unknown_step known (Expr-F.Index p n x) = or_else (unless (known n) p) x
unknown_step known (Expr-F.Call p n xs) = or_else (unless (known n) p) (first_of xs)
unknown_step known (Expr-F.Cast p w x) = x
unknown_step known (Expr-F.Unary p o x) = x
unknown_step known (Expr-F.StepBefore p o x) = x
unknown_step known (Expr-F.StepAfter p o x) = x
unknown_step known (Expr-F.Binary p o x y) = or_else x y
unknown_step known (Expr-F.Choose p x y z) = or_else x (or_else y z)
unknown_step known (Expr-F.Assign p o x y) = or_else x y
unknown_step known (Expr-F.Comma p x y) = or_else x y
unknown_step known (Expr-F.Address p x) = x

abbrev pub unknown_in : (Name → Bool) → Expr → First
unknown_in known = fold-Expr First (unknown_step known)

abbrev pub unknown_in_size : (Name → Bool) → Option Expr → First
unknown_in_size known None = None
unknown_in_size known (Some x) = unknown_in known x

abbrev pub unknown_in_start : (Name → Bool) → Option Initialiser → First
unknown_in_start known None = None
unknown_in_start known (Some (One x)) = unknown_in known x
unknown_in_start known (Some (Braces xs)) = first_of (map (unknown_in known) xs)

abbrev pub is_mutex : TypeWord → Bool
is_mutex type.Mutex = true
is_mutex _ = false

abbrev pub unknown_at : List Function → Scope → Expr → First
unknown_at functions s x = unknown_in (is_known functions s false) x

abbrev pub known_rules : List Function → Rules
known_rules functions = record {
  effect = unknown_at functions;
  value = unknown_at functions;
  returned = λ s p x. unknown_at functions s x;
  jump = λ s p. None;
  declarator = λ s w d. or_else (unknown_in_size (is_known functions s false) d.size) (unknown_in_start (is_known functions (declare w d s) (is_mutex w)) d.initialiser);
  head = λ s f. None;
}

-- the first name that is not known
abbrev pub first_unknown : Program → First
first_unknown program = walk_program (rule_walk (known_rules (functions_of program.items))) program
