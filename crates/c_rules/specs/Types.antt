-- Types, and where things may stand. What is found is the first node that breaks a rule, children before parents and left to
-- right. Int and Uint convert to each other, so that the rules ask only whether there is a value.
use Rattle.std.specs.Prelude.{ℕ, ◌+◌, ◌^◌, nat_lt, nat_le, nat_eq, List, [], ◌∷◌, map, length, Bool, true, false, ◌&&◌, ◌||◌, not, cond, Option, Some, None}
use Rattle.std.specs.Str.{bytes_eq}
use Rattle.c_tree.specs.declared.constants.Constant.{Constant}
use Rattle.c_tree.specs.Constants.{constant_of, constant_value}
use Rattle.c_tree.specs.declared.expr.TypeWord.{TypeWord}
use Rattle.c_tree.specs.declared.expr.TypeWord.TheVariants as type
use Rattle.c_tree.specs.declared.expr.Expr.{Expr, fold-Expr, map-Expr, out-Expr, roll-Expr}
use Rattle.c_tree.specs.declared.expr.Expr.TheOpen.{Expr-F}
use Rattle.c_tree.specs.declared.stmt.Initialiser.{Initialiser}
use Rattle.c_tree.specs.declared.stmt.Initialiser.TheVariants.{One, Braces}
use Rattle.c_tree.specs.declared.stmt.Declarator.{Declarator}
use Rattle.c_tree.specs.declared.program.Param.{Param}
use Rattle.c_tree.specs.declared.program.Function.{Function}
use Rattle.c_tree.specs.declared.program.Program.{Program}
use Rattle.c_rules.specs.declared.builtin.Role.{Role}
use Rattle.c_rules.specs.declared.builtin.Role.TheVariants as role
use Rattle.c_rules.specs.declared.names.Meaning.{Meaning}
use Rattle.c_rules.specs.declared.names.Meaning.TheVariants as meaning
use Rattle.c_rules.specs.Names.{Name, or_else, Scope, functions_of, meaning_of}
use Rattle.c_rules.specs.Routines.{plain_name, routine_name}
use Rattle.c_rules.specs.Walk.{walk_program, declare}
use Rattle.c_rules.specs.Scopes.{First, unless, first_of, Rules, rule_walk, mutex_start, is_mutex}
use Rattle.c_rules.specs.BuiltIns.{role_of, values, argument_count, has_value}

-- a type of values: Int and Uint, as which `void *` and `pthread_t` are read; a condition variable is none, and no rule lets it stand anywhere
abbrev pub is_value_type : TypeWord → Bool
is_value_type type.Int = true
is_value_type type.Uint = true
is_value_type type.Void = false
is_value_type type.VoidPointer = true
is_value_type type.Thread = true
is_value_type type.Mutex = false
is_value_type type.Cond = false

abbrev pub is_void : TypeWord → Bool
is_void type.Void = true
is_void _ = false

-- what has no value stands only as a statement or left of a comma
abbrev pub may_lack_value : Role → Bool
may_lack_value role.Statement = true
may_lack_value role.LeftOfComma = true
may_lack_value _ = false

-- only behind `&` in a mutex call is a mutex named
abbrev pub is_mutex_role : Role → Bool
is_mutex_role role.Mutex = true
is_mutex_role _ = false

-- the third argument of pthread_create, alone or behind `&`
abbrev pub is_routine_role : Role → Bool
is_routine_role role.Routine = true
is_routine_role role.RoutineName = true
is_routine_role _ = false

abbrev pub is_text_role : Role → Bool
is_text_role role.TextOrValue = true
is_text_role _ = false

abbrev pub type_fits : Role → TypeWord → Bool
type_fits r w = is_value_type w || (is_mutex w && is_mutex_role r)

abbrev pub is_scalar : Option ℕ → Bool
is_scalar None = true
is_scalar (Some n) = false

-- a name alone is a variable that is no array, or the function of a new thread
abbrev pub name_fits : Role → Meaning → Bool
name_fits r (meaning.Variable v) = is_scalar v.cells && type_fits r v.word
name_fits r (meaning.Function w n) = is_routine_role r
name_fits r (meaning.Builtin c) = false
name_fits r meaning.Nothing = false

-- an index stands only behind an array
abbrev pub index_fits : Role → Meaning → Bool
index_fits r (meaning.Variable v) = not (is_scalar v.cells) && type_fits r v.word
index_fits r _ = false

abbrev pub cast_fits : Role → TypeWord → Bool
cast_fits r w = is_value_type w || (is_void w && may_lack_value r)

-- the role of what stands in brackets: behind `&` they are looked through
abbrev pub inside_brackets : Role → Role
inside_brackets role.Mutex = role.Mutex
inside_brackets role.RoutineName = role.RoutineName
inside_brackets _ = role.Value

abbrev pub behind_address : Role → Role
behind_address role.MutexAddress = role.Mutex
behind_address role.Routine = role.RoutineName
behind_address _ = role.Value

-- what stands left of one comma may hold another
abbrev pub right_of_comma : Role → Role
right_of_comma role.LeftOfComma = role.LeftOfComma
right_of_comma _ = role.Value

-- the name of an lvalue's variable
abbrev pub target_step : Expr-F (Option Name) → Option Name
target_step (Expr-F.Name p n) = Some n
target_step (Expr-F.Index p n x) = Some n
target_step (Expr-F.Bracket p x) = x
target_step _ = None

abbrev pub target_name : Expr → Option Name
target_name = fold-Expr (Option Name) target_step

-- the variable whose address an argument is
abbrev pub addressed_in : Expr-F Expr → Option Name
addressed_in (Expr-F.Address p x) = target_name x
addressed_in _ = None

abbrev pub addressed_name : Expr → Option Name
addressed_name x = addressed_in (out-Expr x)

-- a variable of such a type
abbrev pub is_of_type : (TypeWord → Bool) → Meaning → Bool
is_of_type ok (meaning.Variable v) = ok v.word
is_of_type ok _ = false

-- a function that a thread may run: at most one parameter, and not of type void
abbrev pub may_run : Meaning → Bool
may_run (meaning.Function w n) = nat_le n 1 && not (is_void w)
may_run _ = false

abbrev pub is_function : Meaning → Bool
is_function (meaning.Function w n) = true
is_function _ = false

abbrev pub meets : (Meaning → Bool) → (Name → Meaning) → Option Name → Bool
meets ok means None = false
meets ok means (Some n) = ok (means n)

abbrev pub is_zero_constant : Option Constant → Bool
is_zero_constant None = false
is_zero_constant (Some c) = nat_eq c.value 0

abbrev pub argument_fits : (Name → Meaning) → Role → Expr → Bool
argument_fits means role.Zero x = is_zero_constant (constant_of x)
argument_fits means role.MutexAddress x = meets (is_of_type is_mutex) means (addressed_name x)
argument_fits means role.TargetAddress x = meets (is_of_type is_value_type) means (addressed_name x)
argument_fits means role.Routine x = meets may_run means (routine_name x)
argument_fits means _ x = true

-- arguments from this number on
abbrev pub arguments_fit : (Name → Meaning) → (ℕ → Role) → ℕ → List Expr → Bool
arguments_fit means roles i [] = true
arguments_fit means roles i (x ∷ xs) = argument_fits means (roles i) x && arguments_fit means roles (i + 1) xs

-- a call names a function with a body or a built-in call, with the arguments that it has, where its value may be used
abbrev pub call_fits : (Name → Meaning) → Role → Meaning → List Expr → Bool
call_fits means r (meaning.Function w n) xs = nat_eq (length xs) n && (is_value_type w || (is_void w && may_lack_value r))
call_fits means r (meaning.Builtin c) xs = nat_eq (length xs) (argument_count c) && (arguments_fit means (role_of c) 0 xs && (has_value c || may_lack_value r))
call_fits means r _ xs = false

abbrev pub roles_in : Meaning → ℕ → Role
roles_in (meaning.Builtin c) = role_of c
roles_in _ = values

-- `&` stands only before a mutex or a variable that a number is stored into, where the table has it, and before a thread's function
abbrev pub address_fits : (Name → Meaning) → Role → Expr → Bool
address_fits means role.MutexAddress x = true
address_fits means role.TargetAddress x = true
address_fits means role.Routine x = meets is_function means (plain_name x)
address_fits means _ x = false

-- an expression, and what is broken in it by the role in which it stands
pub record Judged : Type 0 where
  pub whole : Expr
  pub found : Role → First

abbrev pub wholes : List Judged → List Expr
wholes [] = []
wholes (x ∷ xs) = x.whole ∷ wholes xs

-- arguments from this number on in their roles; a function's are values
abbrev pub broken_arguments : (ℕ → Role) → ℕ → List Judged → First
broken_arguments roles i [] = None
broken_arguments roles i (x ∷ xs) = or_else (x.found (roles i)) (broken_arguments roles (i + 1) xs)

-- what is broken in an expression from what its parts are: first in them, then at itself
abbrev pub found_step : (Name → Meaning) → Expr-F Judged → Role → First
found_step means (Expr-F.Name p n) r = unless (name_fits r (means n)) p
found_step means (Expr-F.Number p v u) r = None
found_step means (Expr-F.Text p) r = unless (is_text_role r) p
found_step means (Expr-F.Bracket p x) r = x.found (inside_brackets r)
found_step means (Expr-F.Index p n x) r = or_else (x.found role.Value) (unless (index_fits r (means n)) p)
found_step means (Expr-F.Call p n xs) r = or_else (broken_arguments (roles_in (means n)) 0 xs) (unless (call_fits means r (means n) (wholes xs)) p)
found_step means (Expr-F.Cast p w x) r = or_else (x.found role.Value) (unless (cast_fits r w) p)
found_step means (Expr-F.Unary p o x) r = x.found role.Value
found_step means (Expr-F.StepBefore p o x) r = x.found role.Value
found_step means (Expr-F.StepAfter p o x) r = x.found role.Value
found_step means (Expr-F.Binary p o x y) r = or_else (x.found role.Value) (y.found role.Value)
found_step means (Expr-F.Choose p x y z) r = or_else (x.found role.Value) (or_else (y.found role.Value) (z.found role.Value))
found_step means (Expr-F.Assign p o x y) r = or_else (x.found role.Value) (y.found role.Value)
found_step means (Expr-F.Comma p x y) r = or_else (x.found role.LeftOfComma) (y.found (right_of_comma r))
found_step means (Expr-F.Address p x) r = or_else (x.found (behind_address r)) (unless (address_fits means r x.whole) p)

-- the expression of these parts
abbrev pub whole_step : Expr-F Judged → Expr
whole_step l = roll-Expr (map-Expr Judged Expr (λ (x : Judged). x.whole) l)

abbrev pub judged_step : (Name → Meaning) → Expr-F Judged → Judged
judged_step means l = record { whole = whole_step l; found = found_step means l }

abbrev pub judged : (Name → Meaning) → Expr → Judged
judged means = fold-Expr Judged (judged_step means)

-- the first node of an expression that breaks a rule, by what the names around stand for
abbrev pub broken_in : (Name → Meaning) → Expr → Role → First
broken_in means x = (judged means x).found

abbrev pub broken_size : (Name → Meaning) → Option Expr → First
broken_size means None = None
broken_size means (Some x) = broken_in means x role.Value

abbrev pub is_start_in : Expr-F Expr → Bool
is_start_in (Expr-F.Name p n) = bytes_eq mutex_start n
is_start_in _ = false

-- PTHREAD_MUTEX_INITIALIZER
abbrev pub is_mutex_start : Expr → Bool
is_mutex_start x = is_start_in (out-Expr x)

-- a value that a variable begins with; in the initialiser of a mutex PTHREAD_MUTEX_INITIALIZER alone is known
abbrev pub broken_value : (Name → Meaning) → TypeWord → Expr → First
broken_value means w x = cond (is_mutex w && is_mutex_start x) None (broken_in means x role.Value)

abbrev pub broken_start : (Name → Meaning) → TypeWord → Option Initialiser → First
broken_start means w None = None
broken_start means w (Some (One x)) = broken_value means w x
broken_start means w (Some (Braces xs)) = first_of (map (broken_value means w) xs)

-- no variable is void, and a mutex is shared
abbrev pub word_fits : Bool → TypeWord → Bool
word_fits top w = is_value_type w || (is_mutex w && top)

-- a constant from 1: read as its type says
abbrev pub is_positive : Option Constant → Bool
is_positive None = false
is_positive (Some c) = nat_lt 0 c.value && (c.unsigned || nat_lt c.value (2 ^ 31))

abbrev pub size_fits : Option Expr → Bool
size_fits None = true
size_fits (Some x) = is_positive (constant_of x)

abbrev pub is_constant : Option Constant → Bool
is_constant None = false
is_constant (Some c) = true

-- a mutex begins with PTHREAD_MUTEX_INITIALIZER, another shared variable with a constant
abbrev pub value_fits : Bool → TypeWord → Expr → Bool
value_fits top w x = cond (is_mutex w) (is_mutex_start x) (not top || is_constant (constant_of x))

abbrev pub values_fit : Bool → TypeWord → List Expr → Bool
values_fit top w [] = true
values_fit top w (x ∷ xs) = value_fits top w x && values_fit top w xs

-- at most as many values as cells
abbrev pub braces_fit : Bool → TypeWord → Expr → List Expr → Bool
braces_fit top w e xs = nat_le (length xs) (constant_value e) && values_fit top w xs

-- an array's initialiser is in braces, and a scalar's has none
abbrev pub start_fits : Bool → TypeWord → Option Expr → Option Initialiser → Bool
start_fits top w size None = true
start_fits top w None (Some (One x)) = value_fits top w x
start_fits top w None (Some (Braces xs)) = false
start_fits top w (Some e) (Some (One x)) = false
start_fits top w (Some e) (Some (Braces xs)) = braces_fit top w e xs

abbrev pub declarator_fits : Bool → TypeWord → Declarator → Bool
declarator_fits top w d = word_fits top w && (size_fits d.size && start_fits top w d.size d.initialiser)

abbrev pub broken_declarator : List Function → Scope → TypeWord → Declarator → First
broken_declarator functions s w d =
    or_else (broken_size (meaning_of functions s) d.size)
    (or_else (broken_start (meaning_of functions (declare w d s)) w d.initialiser) (unless (declarator_fits s.top w d) d.place))

-- no parameter is void or a mutex
abbrev pub broken_param : List Param → First
broken_param [] = None
broken_param (p ∷ ps) = or_else (unless (is_value_type p.word) p.place) (broken_param ps)

abbrev pub typed_rules : List Function → Rules
typed_rules functions = record {
  effect = λ s x. broken_in (meaning_of functions s) x role.Statement;
  value = λ s x. broken_in (meaning_of functions s) x role.Value;
  returned = λ s p x. or_else (broken_in (meaning_of functions s) x role.Value) (unless (not (is_void s.function)) p);
  jump = λ s p. unless s.in_loop p;
  declarator = broken_declarator functions;
  head = λ s f. broken_param f.params;
}

-- the first node that breaks a rule on types or on where something stands
abbrev pub first_bad_type : Program → First
first_bad_type program = walk_program (rule_walk (typed_rules (functions_of program.items))) program
