-- The rule on condition variables, and the first place that breaks it.
use Rattle.std.specs.Prelude.{◌≡◌, List, [], ◌∷◌, ◌++◌, Bool, true, false, ◌&&◌, ◌||◌, not, Some, None}
use Rattle.std.specs.Str.{bytes_eq}
use Rattle.c_tree.specs.declared.program.Program.{Program}
use Rattle.c_rules.specs.Names.{Name, or_else}
use Rattle.c_rules.specs.Scopes.{First, unless}
use Rattle.cond_lower.specs.declared.node.Node.{Node}
use Rattle.cond_lower.specs.declared.node.Node.TheVariants.{Declares, Names, Calls, Breaks}
use Rattle.cond_lower.specs.declared.fault.CondFault.{CondFault}
use Rattle.cond_lower.specs.declared.fault.CondFault.TheVariants as fault
use Rattle.cond_lower.specs.Nodes.{nodes_of}

-- the name that a node declares as a condition variable's
abbrev pub cond_declared : Node → List Name
cond_declared (Declares p n true ok) = n ∷ []
cond_declared _ = []

-- the names of condition variables, wherever they are declared
abbrev pub cond_names : List Node → List Name
cond_names [] = []
cond_names (x ∷ xs) = cond_declared x ++ cond_names xs

abbrev pub has_name : List Name → Name → Bool
has_name [] n = false
has_name (m ∷ ms) n = bytes_eq m n || has_name ms n

abbrev pub declares_name : Node → Name → Bool
declares_name (Declares p m c ok) n = bytes_eq m n
declares_name _ n = false

-- whether one of these nodes declares the name
abbrev pub is_declared_in : List Node → Name → Bool
is_declared_in [] n = false
is_declared_in (x ∷ xs) n = declares_name x n || is_declared_in xs n

-- A node breaks the rule, by the names of condition variables and by the nodes before it: what is declared fits, and a name of a
-- condition variable is declared once in the whole text, and is named behind `&` as the first argument of the five calls alone,
-- which name nothing else there.
abbrev pub broken_at : List Name → List Node → Node → First
broken_at conds before (Declares p n c ok) = unless (ok && not (has_name conds n && is_declared_in before n)) p
broken_at conds before (Names p n) = unless (not (has_name conds n)) p
broken_at conds before (Calls p n) = unless (has_name conds n) p
broken_at conds before (Breaks p) = Some p

abbrev pub first_broken : List Name → List Node → List Node → First
first_broken conds before [] = None
first_broken conds before (x ∷ xs) = or_else (broken_at conds before x) (first_broken conds (before ++ x ∷ []) xs)

-- the first place that breaks the rule
abbrev pub first_bad_cond : Program → First
first_bad_cond program = first_broken (cond_names (nodes_of program)) [] (nodes_of program)

-- nothing breaks the rule
abbrev pub KeepsConds : Program → Type 0
KeepsConds program = first_bad_cond program ≡ None

-- why a program is not lowered: the first place that breaks the rule; want of memory tells nothing
abbrev pub IsCondFault : Program → CondFault → Type 0
IsCondFault program (fault.BadCond p) = first_bad_cond program ≡ Some p
IsCondFault program fault.OutOfMemory = Unit {0}
