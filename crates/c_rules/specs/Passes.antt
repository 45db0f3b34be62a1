-- How scopes are entered and left, as `Scopes` says it, and how the code of the passes answers, which no public contract cites.
use Rattle.std.specs.Prelude.{◌≡◌, ◌≤◌, List, false, length, take, Option, Some, None, Result, Ok, Err}
use Rattle.c_tree.specs.declared.expr.TypeWord.{TypeWord}
use Rattle.c_tree.specs.declared.program.Item.{Item}
use Rattle.c_rules.specs.declared.names.Variable.{Variable}
use Rattle.c_rules.specs.declared.names.Entry.{Entry}
use Rattle.c_rules.specs.declared.scope.Outer.{Outer}
use Rattle.c_rules.specs.declared.stop.Stop.{Stop}
use Rattle.c_rules.specs.declared.stop.Stop.TheVariants.{Broken, OutOfMemory}
use Rattle.c_rules.specs.Names.{Name, Scope, functions_of}
use Rattle.c_rules.specs.declared.rules.Rule.{Rule}
use Rattle.c_rules.specs.declared.rules.Rule.TheVariants as rule
use Rattle.c_rules.specs.Walk.{Walk}
use Rattle.c_rules.specs.Scopes.{First, Rules, once_rules, known_rules, rule_walk}
use Rattle.c_rules.specs.Types.{typed_rules}

abbrev pub entry_of : Name → Option Variable → Entry
entry_of n v = record { name = n; variable = v }

-- what is kept of a scope where another is entered
abbrev pub outside : Scope → Outer
outside s = record { count = length s.entries; start = s.start; top = s.top; in_loop = s.in_loop; function = s.function }

-- the scope of a function before its parameters
abbrev pub body_scope : TypeWord → Scope → Scope
body_scope w s = record { entries = s.entries; start = length s.entries; top = false; in_loop = false; function = w }

-- a scope that has declared more, and is the same otherwise
pub record Extends (s t : Scope) : Type 0 where
  pub more : length s.entries ≤ length t.entries
  pub kept : take (length s.entries) t.entries ≡ s.entries
  pub start : t.start ≡ s.start
  pub top : t.top ≡ s.top
  pub in_loop : t.in_loop ≡ s.in_loop
  pub function : t.function ≡ s.function

-- why a pass stops, where this is the first place that is broken; want of memory tells nothing
abbrev pub Stops : Stop → First → Type 0
Stops (Broken p) f = f ≡ Some p
Stops OutOfMemory f = Unit {0}

-- what a pass answers, where this is the first place that is broken
abbrev pub Gives : {A : Type 0} → Result A Stop → First → Type 0
Gives (Ok v) f = f ≡ None
Gives (Err e) f = Stops e f

abbrev pub rules_of : Rule → List Item → Rules
rules_of rule.Redeclared items = once_rules
rules_of rule.Undeclared items = known_rules (functions_of items)
rules_of rule.Types items = typed_rules (functions_of items)

-- the walk of a pass
abbrev pub pass_walk : Rule → List Item → Walk First
pass_walk r items = rule_walk (rules_of r items)
