-- What the rule on condition variables looks at, in the order of the text.
use Rattle.std.specs.Prelude.{List, [], ◌∷◌, ◌++◌, map, drop, Bool, true, false, ◌&&◌, ◌||◌, not, cond, nat_eq, Option, Some, None}
use Rattle.std.specs.Str.{bytes_eq}
use Rattle.dg_base.specs.declared.Place.{Place}
use Rattle.c_tree.specs.declared.constants.Constant.{Constant}
use Rattle.c_tree.specs.declared.expr.TypeWord.{TypeWord}
use Rattle.c_tree.specs.declared.expr.Expr.{Expr, fold-Expr, out-Expr, map-Expr, roll-Expr}
use Rattle.c_tree.specs.declared.expr.Expr.TheOpen.{Expr-F}
use Rattle.c_tree.specs.declared.stmt.Initialiser.{Initialiser}
use Rattle.c_tree.specs.declared.stmt.Initialiser.TheVariants.{One, Braces}
use Rattle.c_tree.specs.declared.stmt.Declarator.{Declarator}
use Rattle.c_tree.specs.declared.stmt.Decl.{Decl}
use Rattle.c_tree.specs.declared.stmt.Start.{Start}
use Rattle.c_tree.specs.declared.stmt.Start.TheVariants as start
use Rattle.c_tree.specs.declared.stmt.Stmt.{Stmt, fold-Stmt}
use Rattle.c_tree.specs.declared.stmt.Stmt.TheOpen.{Stmt-F}
use Rattle.c_tree.specs.declared.program.Param.{Param}
use Rattle.c_tree.specs.declared.program.Function.{Function}
use Rattle.c_tree.specs.declared.program.Item.{Item}
use Rattle.c_tree.specs.declared.program.Item.TheVariants as item
use Rattle.c_tree.specs.declared.program.Program.{Program}
use Rattle.c_tree.specs.Constants.{constant_of}
use Rattle.c_rules.specs.Names.{Name, is_some}
use Rattle.c_rules.specs.Routines.{plain_name}
use Rattle.c_rules.specs.Types.{addressed_name}
use Rattle.cond_lower.specs.declared.calls.CondCall.{CondCall}
use Rattle.cond_lower.specs.declared.calls.CondCall.TheVariants as call
use Rattle.cond_lower.specs.declared.node.Node.{Node}
use Rattle.cond_lower.specs.declared.node.Node.TheVariants.{Declares, Names, Calls, Breaks}
use Rattle.cond_lower.specs.Calls.{cond_call_named, cond_start, is_cond}

-- ---- expressions

-- an expression, and the nodes in it
pub record Noted : Type 0 where
  pub whole : Expr
  pub nodes : List Node

abbrev pub nodes_of_all : List Noted → List Node
nodes_of_all [] = []
nodes_of_all (x ∷ xs) = x.nodes ++ nodes_of_all xs

-- the name behind `&`, in any brackets there
abbrev pub cond_in : Expr-F Expr → Option Name
cond_in (Expr-F.Address p x) = plain_name x
cond_in _ = None

abbrev pub cond_behind : Expr → Option Name
cond_behind x = cond_in (out-Expr x)

-- the name that the first argument is the address of
abbrev pub first_cond : List Expr → Option Name
first_cond [] = None
first_cond (x ∷ xs) = cond_behind x

abbrev pub name_or_none : Option Name → Name
name_or_none None = []
name_or_none (Some n) = n

abbrev pub is_zero : Option Constant → Bool
is_zero None = false
is_zero (Some c) = nat_eq c.value 0

-- how many arguments there are, and what the second is: `&m` or `&m[e]`, or the constant 0
abbrev pub arguments_fit : CondCall → List Expr → Bool
arguments_fit call.Wait (x ∷ y ∷ []) = is_some (addressed_name y)
arguments_fit call.Init (x ∷ y ∷ []) = is_zero (constant_of y)
arguments_fit call.Signal (x ∷ []) = true
arguments_fit call.Broadcast (x ∷ []) = true
arguments_fit call.Destroy (x ∷ []) = true
arguments_fit _ _ = false

abbrev pub whole_parts : List Noted → List Expr
whole_parts xs = map (λ (x : Noted). x.whole) xs

-- the nodes of a call on this condition variable, whose arguments fit
abbrev pub on_cond : Place → Option Name → List Noted → List Node
on_cond p None xs = Breaks p ∷ nodes_of_all xs
on_cond p (Some c) xs = Calls p c ∷ nodes_of_all (drop 1 xs)

-- the nodes behind a call's name: of a call on a condition variable, or of another
abbrev pub behind_name : Place → Option CondCall → List Noted → List Node
behind_name p None xs = nodes_of_all xs
behind_name p (Some c) xs = cond (arguments_fit c (whole_parts xs)) (on_cond p (first_cond (whole_parts xs)) xs) (Breaks p ∷ nodes_of_all xs)

abbrev pub cast_node : Place → TypeWord → List Node
cast_node p w = cond (is_cond w) (Breaks p ∷ []) []

abbrev pub nodes_step : Expr-F Noted → List Node
nodes_step (Expr-F.Name p n) = Names p n ∷ []
nodes_step (Expr-F.Number p v u) = []
nodes_step (Expr-F.Text p) = []
nodes_step (Expr-F.Bracket p x) = x.nodes
nodes_step (Expr-F.Index p n x) = Names p n ∷ x.nodes
nodes_step (Expr-F.Call p n xs) = Names p n ∷ behind_name p (cond_call_named n) xs
nodes_step (Expr-F.Cast p w x) = cast_node p w ++ x.nodes
nodes_step (Expr-F.Unary p o x) = x.nodes
nodes_step (Expr-F.StepBefore p o x) = x.nodes
nodes_step (Expr-F.StepAfter p o x) = x.nodes
nodes_step (Expr-F.Binary p o x y) = x.nodes ++ y.nodes
nodes_step (Expr-F.Choose p x y z) = x.nodes ++ (y.nodes ++ z.nodes)
nodes_step (Expr-F.Assign p o x y) = x.nodes ++ y.nodes
nodes_step (Expr-F.Comma p x y) = x.nodes ++ y.nodes
nodes_step (Expr-F.Address p x) = x.nodes

abbrev pub whole_step : Expr-F Noted → Expr
whole_step l = roll-Expr (map-Expr Noted Expr (λ (x : Noted). x.whole) l)

abbrev pub noted_step : Expr-F Noted → Noted
noted_step l = record { whole = whole_step l; nodes = nodes_step l }

abbrev pub noted : Expr → Noted
noted = fold-Expr Noted noted_step

abbrev pub expr_nodes : Expr → List Node
expr_nodes x = (noted x).nodes

abbrev pub all_expr_nodes : List Expr → List Node
all_expr_nodes xs = nodes_of_all (map noted xs)

abbrev pub option_nodes : Option Expr → List Node
option_nodes None = []
option_nodes (Some x) = expr_nodes x

-- ---- declarations

abbrev pub is_start_in : Expr-F Expr → Bool
is_start_in (Expr-F.Name p n) = bytes_eq cond_start n
is_start_in _ = false

-- nothing, or PTHREAD_COND_INITIALIZER
abbrev pub begins_well : Option Initialiser → Bool
begins_well None = true
begins_well (Some (One x)) = is_start_in (out-Expr x)
begins_well (Some (Braces xs)) = false

abbrev pub start_nodes : Option Initialiser → List Node
start_nodes None = []
start_nodes (Some (One x)) = expr_nodes x
start_nodes (Some (Braces xs)) = all_expr_nodes xs

-- a condition variable is a shared scalar that begins well
abbrev pub cond_fits : Bool → Declarator → Bool
cond_fits shared d = shared && (not (is_some d.size) && begins_well d.initialiser)

abbrev pub declarator_nodes : Bool → TypeWord → Declarator → List Node
declarator_nodes shared w d = Declares d.place d.name (is_cond w) (not (is_cond w) || cond_fits shared d) ∷ (option_nodes d.size ++ start_nodes d.initialiser)

abbrev pub declarators_nodes : Bool → TypeWord → List Declarator → List Node
declarators_nodes shared w [] = []
declarators_nodes shared w (d ∷ ds) = declarator_nodes shared w d ++ declarators_nodes shared w ds

abbrev pub decl_nodes : Bool → Decl → List Node
decl_nodes shared d = declarators_nodes shared d.word d.declarators

-- ---- statements

abbrev pub for_nodes : Start → List Node
for_nodes start.Nothing = []
for_nodes (start.Expr x) = expr_nodes x
for_nodes (start.Declare d) = decl_nodes false d

abbrev pub else_nodes : Option (List Node) → List Node
else_nodes None = []
else_nodes (Some ns) = ns

abbrev pub joined : List (List Node) → List Node
joined [] = []
joined (ns ∷ more) = ns ++ joined more

abbrev pub stmt_step : Stmt-F (List Node) → List Node
stmt_step (Stmt-F.Empty p) = []
stmt_step (Stmt-F.Expr p x) = expr_nodes x
stmt_step (Stmt-F.Declare d) = decl_nodes false d
stmt_step (Stmt-F.Block p xs) = joined xs
stmt_step (Stmt-F.Label p n x) = x
stmt_step (Stmt-F.If p t a b) = expr_nodes t ++ (a ++ else_nodes b)
stmt_step (Stmt-F.While p t x) = expr_nodes t ++ x
stmt_step (Stmt-F.DoWhile p x t) = x ++ expr_nodes t
stmt_step (Stmt-F.For p st t e x) = for_nodes st ++ (option_nodes t ++ (option_nodes e ++ x))
stmt_step (Stmt-F.Return p x) = option_nodes x
stmt_step (Stmt-F.Break p) = []
stmt_step (Stmt-F.Continue p) = []

abbrev pub stmt_nodes : Stmt → List Node
stmt_nodes = fold-Stmt (List Node) stmt_step

abbrev pub all_stmt_nodes : List Stmt → List Node
all_stmt_nodes xs = joined (map stmt_nodes xs)

-- ---- programs

-- no parameter is a condition variable
abbrev pub param_node : Param → Node
param_node p = Declares p.place p.name (is_cond p.word) (not (is_cond p.word))

-- no function has the type or one of the five names
abbrev pub head_fits : Function → Bool
head_fits f = not (is_cond f.word) && not (is_some (cond_call_named f.name))

abbrev pub function_nodes : Function → List Node
function_nodes f = Declares f.place f.name false (head_fits f) ∷ (map param_node f.params ++ all_stmt_nodes f.body)

abbrev pub item_nodes : Item → List Node
item_nodes (item.Function f) = function_nodes f
item_nodes (item.Prototype p w n) = cast_node p w
item_nodes (item.Shared d) = decl_nodes true d

abbrev pub nodes_of_items : List Item → List Node
nodes_of_items [] = []
nodes_of_items (x ∷ xs) = item_nodes x ++ nodes_of_items xs

abbrev pub nodes_of : Program → List Node
nodes_of program = nodes_of_items program.items
