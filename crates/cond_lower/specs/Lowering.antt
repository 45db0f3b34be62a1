-- The tree without condition variables.
use Rattle.std.specs.Prelude.{List, [], ◌∷◌, ◌++◌, map, Bool, true, false, cond, Option, Some, None, codes, option_map}
use Rattle.dg_base.specs.declared.Place.{Place}
use Rattle.c_tree.specs.declared.expr.TypeWord.TheVariants as type
use Rattle.c_tree.specs.declared.expr.BinaryOp.TheVariants as op
use Rattle.c_tree.specs.declared.expr.AssignOp.TheVariants as assignment
use Rattle.c_tree.specs.declared.expr.Expr.{Expr, fold-Expr, roll-Expr}
use Rattle.c_tree.specs.declared.expr.Expr.TheVariants as e
use Rattle.c_tree.specs.declared.expr.Expr.TheOpen.{Expr-F}
use Rattle.c_tree.specs.declared.stmt.Initialiser.{Initialiser}
use Rattle.c_tree.specs.declared.stmt.Initialiser.TheVariants.{One, Braces}
use Rattle.c_tree.specs.declared.stmt.Declarator.{Declarator}
use Rattle.c_tree.specs.declared.stmt.Decl.{Decl}
use Rattle.c_tree.specs.declared.stmt.Start.{Start}
use Rattle.c_tree.specs.declared.stmt.Start.TheVariants as start
use Rattle.c_tree.specs.declared.stmt.Stmt.{Stmt, fold-Stmt, roll-Stmt}
use Rattle.c_tree.specs.declared.stmt.Stmt.TheVariants as s
use Rattle.c_tree.specs.declared.stmt.Stmt.TheOpen.{Stmt-F}
use Rattle.c_tree.specs.declared.program.Function.{Function}
use Rattle.c_tree.specs.declared.program.Item.{Item}
use Rattle.c_tree.specs.declared.program.Item.TheVariants as item
use Rattle.c_tree.specs.declared.program.Program.{Program}
use Rattle.c_rules.specs.Names.{Name}
use Rattle.cond_lower.specs.declared.calls.CondCall.{CondCall}
use Rattle.cond_lower.specs.declared.calls.CondCall.TheVariants as call
use Rattle.cond_lower.specs.declared.fault.Wakeups.{Wakeups}
use Rattle.cond_lower.specs.declared.fault.Wakeups.TheVariants.{Any, Signalled}
use Rattle.cond_lower.specs.Calls.{cond_call_named, is_cond}
use Rattle.cond_lower.specs.Nodes.{first_cond, name_or_none}

-- ---- names: none of a text holds a dot

-- how many threads wait, and how many tokens signals have given
abbrev pub waiting : Name → Name
waiting c = c ++ codes ".waiting"

abbrev pub tokens : Name → Name
tokens c = c ++ codes ".tokens"

-- a section on a condition variable
abbrev pub section : Name → Name → Name
section c kind = codes "__VERIFIER_atomic_" ++ (c ++ kind)

abbrev pub enter : Name → Name
enter c = section c (codes ".enter")

abbrev pub take : Name → Name
take c = section c (codes ".take")

abbrev pub signal : Name → Name
signal c = section c (codes ".signal")

abbrev pub broadcast : Name → Name
broadcast c = section c (codes ".broadcast")

abbrev pub init : Name → Name
init c = section c (codes ".init")

-- ---- calls

abbrev pub nought : Place → Expr
nought p = e.Number p 0 false

abbrev pub comma : Place → Expr → Expr → Expr
comma p x y = e.Comma p x y

abbrev pub call_of : Place → Name → List Expr → Expr
call_of p n xs = e.Call p n xs

abbrev pub unlock : Place → Expr → Expr
unlock p m = call_of p (codes "pthread_mutex_unlock") (m ∷ [])

abbrev pub lock : Place → Expr → Expr
lock p m = call_of p (codes "pthread_mutex_lock") (m ∷ [])

-- `c.enter(), pthread_mutex_unlock(m)`
abbrev pub left : Place → Name → Expr → Expr
left p c m = comma p (call_of p (enter c) []) (unlock p m)

-- `c.enter(), pthread_mutex_unlock(m), c.take()`
abbrev pub woken : Place → Name → Expr → Expr
woken p c m = comma p (left p c m) (call_of p (take c) [])

-- what a call on the condition variable c becomes, where m is the mutex
abbrev pub lowered_call : Wakeups → Place → CondCall → Name → Expr → Expr
lowered_call Any p call.Wait c m = comma p (unlock p m) (lock p m)
lowered_call Signalled p call.Wait c m = comma p (woken p c m) (lock p m)
lowered_call Signalled p call.Signal c m = call_of p (signal c) []
lowered_call Signalled p call.Broadcast c m = call_of p (broadcast c) []
lowered_call Signalled p call.Init c m = call_of p (init c) []
lowered_call _ p _ c m = nought p

-- the mutex among the arguments
abbrev pub second : Place → List Expr → Expr
second p (x ∷ y ∷ xs) = y
second p _ = nought p

abbrev pub lower_call : Wakeups → Place → Name → Option CondCall → List Expr → Expr
lower_call w p n None xs = call_of p n xs
lower_call w p n (Some c) xs = lowered_call w p c (name_or_none (first_cond xs)) (second p xs)

abbrev pub lower_step : Wakeups → Expr-F Expr → Expr
lower_step w (Expr-F.Call p n xs) = lower_call w p n (cond_call_named n) xs
lower_step w y = roll-Expr y

abbrev pub lower_expr : Wakeups → Expr → Expr
lower_expr w = fold-Expr Expr (lower_step w)

-- ---- declarations and statements

abbrev pub lower_start : Wakeups → Initialiser → Initialiser
lower_start w (One x) = One (lower_expr w x)
lower_start w (Braces xs) = Braces (map (lower_expr w) xs)

abbrev pub lower_declarator : Wakeups → Declarator → Declarator
lower_declarator w d = record d { size = option_map (lower_expr w) d.size; initialiser = option_map (lower_start w) d.initialiser }

abbrev pub lower_decl : Wakeups → Decl → Decl
lower_decl w d = record d { declarators = map (lower_declarator w) d.declarators }

abbrev pub lower_for : Wakeups → Start → Start
lower_for w start.Nothing = start.Nothing
lower_for w (start.Expr x) = start.Expr (lower_expr w x)
lower_for w (start.Declare d) = start.Declare (lower_decl w d)

abbrev pub lower_stmt_step : Wakeups → Stmt-F Stmt → Stmt
lower_stmt_step w (Stmt-F.Expr p x) = s.Expr p (lower_expr w x)
lower_stmt_step w (Stmt-F.Declare d) = s.Declare (lower_decl w d)
lower_stmt_step w (Stmt-F.If p t a b) = s.If p (lower_expr w t) a b
lower_stmt_step w (Stmt-F.While p t x) = s.While p (lower_expr w t) x
lower_stmt_step w (Stmt-F.DoWhile p x t) = s.DoWhile p x (lower_expr w t)
lower_stmt_step w (Stmt-F.For p st t u x) = s.For p (lower_for w st) (option_map (lower_expr w) t) (option_map (lower_expr w) u) x
lower_stmt_step w (Stmt-F.Return p x) = s.Return p (option_map (lower_expr w) x)
lower_stmt_step w y = roll-Stmt y

abbrev pub lower_stmt : Wakeups → Stmt → Stmt
lower_stmt w = fold-Stmt Stmt (lower_stmt_step w)

-- ---- the sections on a condition variable, whose names have the place p

-- a shared variable, or a local one
abbrev pub variable : Place → Name → Expr
variable p n = e.Name p n

abbrev pub one : Place → Expr
one p = e.Number p 1 false

abbrev pub plus : Place → Expr → Expr → Expr
plus p x y = e.Binary p op.Plus x y

abbrev pub held : Name
held = codes "v"

abbrev pub less_one : Place → Expr
less_one p = e.Binary p op.Minus (variable p held) (one p)

-- `n = x;`
abbrev pub set : Place → Name → Expr → Stmt
set p n x = s.Expr p (e.Assign p assignment.Plain (variable p n) x)

-- `unsigned v = n;`
abbrev pub hold : Place → Name → Stmt
hold p n = s.Declare (record { word = type.Uint; declarators = record { place = p; name = held; size = None; initialiser = Some (One (variable p n)) } ∷ [] })

-- `n = v - 1;`
abbrev pub set_less : Place → Name → Stmt
set_less p n = set p n (less_one p)

-- `n = n + 1;`
abbrev pub one_more : Place → Name → Stmt
one_more p n = set p n (plus p (variable p n) (one p))

-- `__VERIFIER_assume(v);`
abbrev pub assume : Place → Stmt
assume p = s.Expr p (call_of p (codes "__VERIFIER_assume") (variable p held ∷ []))

-- `waiting = waiting + 1;`
abbrev pub enter_body : Place → Name → List Stmt
enter_body p c = one_more p (waiting c) ∷ []

-- `unsigned v = tokens; __VERIFIER_assume(v); tokens = v - 1;`
abbrev pub take_body : Place → Name → List Stmt
take_body p c = hold p (tokens c) ∷ assume p ∷ set_less p (tokens c) ∷ []

-- `{ waiting = v - 1; tokens = tokens + 1; }`
abbrev pub give_one : Place → Name → Stmt
give_one p c = s.Block p (set_less p (waiting c) ∷ one_more p (tokens c) ∷ [])

-- `unsigned v = waiting; if (v) { waiting = v - 1; tokens = tokens + 1; }`
abbrev pub signal_body : Place → Name → List Stmt
signal_body p c = hold p (waiting c) ∷ s.If p (variable p held) (give_one p c) None ∷ []

-- `waiting = 0;`, and the same of tokens
abbrev pub none_of : Place → Name → Stmt
none_of p n = set p n (nought p)

-- `tokens = tokens + v;`
abbrev pub give_all : Place → Name → Stmt
give_all p n = set p n (plus p (variable p n) (variable p held))

-- `unsigned v = waiting; waiting = 0; tokens = tokens + v;`
abbrev pub broadcast_body : Place → Name → List Stmt
broadcast_body p c = hold p (waiting c) ∷ none_of p (waiting c) ∷ give_all p (tokens c) ∷ []

-- `waiting = 0; tokens = 0;`
abbrev pub init_body : Place → Name → List Stmt
init_body p c = none_of p (waiting c) ∷ none_of p (tokens c) ∷ []

abbrev pub added_function : Place → Name → List Stmt → Item
added_function p n body = item.Function (record { place = p; word = type.Int; name = n; params = []; body = body })

unfoldable pub enter_item : Place → Name → Item
enter_item p c = added_function p (enter c) (enter_body p c)

unfoldable pub take_item : Place → Name → Item
take_item p c = added_function p (take c) (take_body p c)

unfoldable pub signal_item : Place → Name → Item
signal_item p c = added_function p (signal c) (signal_body p c)

unfoldable pub broadcast_item : Place → Name → Item
broadcast_item p c = added_function p (broadcast c) (broadcast_body p c)

unfoldable pub init_item : Place → Name → Item
init_item p c = added_function p (init c) (init_body p c)

abbrev pub wait_sections : Place → Name → List Item
wait_sections p c = enter_item p c ∷ take_item p c ∷ []

abbrev pub wake_sections : Place → Name → List Item
wake_sections p c = signal_item p c ∷ broadcast_item p c ∷ init_item p c ∷ []

-- the sections on the condition variable of a declarator
unfoldable pub sections_on : Place → Name → List Item
sections_on p c = wait_sections p c ++ wake_sections p c

abbrev pub sections_of : List Declarator → List Item
sections_of [] = []
sections_of (d ∷ ds) = sections_on d.place d.name ++ sections_of ds

-- ---- programs

-- a shared variable that begins with 0
abbrev pub counter : Place → Name → Declarator
counter p n = record { place = p; name = n; size = None; initialiser = None }

-- the two variables of each condition variable
abbrev pub counters : List Declarator → List Declarator
counters [] = []
counters (d ∷ ds) = counter d.place (waiting d.name) ∷ counter d.place (tokens d.name) ∷ counters ds

abbrev pub lower_shared : Wakeups → Bool → Decl → List Item
lower_shared w false d = item.Shared (lower_decl w d) ∷ []
lower_shared Any true d = []
lower_shared Signalled true d = item.Shared (record { word = type.Uint; declarators = counters d.declarators }) ∷ []

abbrev pub lower_function : Wakeups → Function → Function
lower_function w f = record f { body = map (lower_stmt w) f.body }

abbrev pub lower_item : Wakeups → Item → List Item
lower_item w (item.Function f) = item.Function (lower_function w f) ∷ []
lower_item w (item.Prototype p word n) = item.Prototype p word n ∷ []
lower_item w (item.Shared d) = lower_shared w (is_cond d.word) d

abbrev pub lower_items : Wakeups → List Item → List Item
lower_items w [] = []
lower_items w (x ∷ xs) = lower_item w x ++ lower_items w xs

abbrev pub sections_in : Item → List Item
sections_in (item.Shared d) = cond (is_cond d.word) (sections_of d.declarators) []
sections_in _ = []

abbrev pub all_sections : List Item → List Item
all_sections [] = []
all_sections (x ∷ xs) = sections_in x ++ all_sections xs

-- the functions behind all those of the text
abbrev pub added : Wakeups → List Item → List Item
added Any items = []
added Signalled items = all_sections items

-- the program without condition variables
abbrev pub lowered : Wakeups → Program → Program
lowered w program = record { items = lower_items w program.items ++ added w program.items }
