-- Tests of which actions are related in program order or across threads.
use Rattle.std.specs.Prelude.{ℕ, Bool, true, false, ◌&&◌, ◌||◌, not, Option, Some, nat_eq}
use Rattle.axiom_model.specs.declared.MemoryModel.TheVariants.{Sc, Tso, Pso}
use Rattle.axiom_model.specs.declared.Action.{Action}
use Rattle.axiom_model.specs.declared.Action.TheVariants.{Write, Create, Join, Start, End}
use Rattle.axiom_model.specs.declared.Event.{Event}
use Rattle.axiom_model.specs.declared.Event.TheVariants.{At}
use Rattle.axiom_model.specs.declared.RfPair.{RfPair}
use Rattle.axiom_model.specs.Execution.{Execution, cell_of}
use Rattle.axiom_model.specs.Models.{keeps, LocalEdge, GlobalEdge}
use Rattle.consistency.specs.declared.numbering.Node.{Node}
use Rattle.consistency.specs.declared.relations.Relation.{Relation}
use Rattle.consistency.specs.declared.relations.Relation.TheVariants.{Cell, Kept, Section, Across}
use Rattle.consistency.specs.declared.relations.Condition.{Condition}
use Rattle.consistency.specs.declared.relations.Condition.TheVariants.{Local, Global}

abbrev pub is_write : Action → Bool
is_write (Write c v) = true
is_write _ = false

abbrev pub is_start : Action → Bool
is_start Start = true
is_start _ = false

abbrev pub is_end : Action → Bool
is_end End = true
is_end _ = false

-- the action is one of those that lead to other threads
abbrev pub reaches_out : Action → Bool
reaches_out (Create h f v) = true
reaches_out End = true
reaches_out _ = false

-- both numbers are there, and equal
abbrev pub same_number : Option ℕ → Option ℕ → Bool
same_number (Some c) (Some d) = nat_eq c d
same_number _ _ = false

-- both events are actions of one thread
abbrev pub same_thread : Event → Event → Bool
same_thread (At h i) (At k j) = nat_eq h k
same_thread _ _ = false

-- the action creates the thread of which the node is a Start
abbrev pub creates : Action → Node → Bool
creates (Create h f v) w = nat_eq h w.handle && is_start w.action
creates _ w = false

-- the node is an End of the thread for which the action waits
abbrev pub ends : Node → Action → Bool
ends v (Join h) = nat_eq v.handle h && is_end v.action
ends v _ = false

-- a pair of program order that is on one cell or kept, a pair of one block, a Create and a Start of its thread or an End and a Join of its handle
abbrev pub links : Relation → Node → Node → Bool
links Cell v w = nat_eq v.handle w.handle && same_number (cell_of v.action) (cell_of w.action)
links (Kept m) v w = nat_eq v.handle w.handle && keeps m v.action w.action
links Section v w = nat_eq v.block w.block
links Across v w = creates v.action w || ends v w.action

-- no pair of the first with a node behind the second is needed: the second is of another thread, or all that is behind the first is behind the second
abbrev pub stops : Relation → Node → Node → Bool
stops Cell v w = not (nat_eq v.handle w.handle) || same_number (cell_of v.action) (cell_of w.action)
stops (Kept m) v w = not (nat_eq v.handle w.handle) || (keeps m v.action w.action && (not (is_write w.action) || is_write v.action))
stops Section v w = true
stops Across v w = false

-- the pair counts for the condition: under TSO and PSO the global one passes over sources in the reader's thread
abbrev pub sees : Condition → RfPair → Bool
sees Local p = true
sees (Global Sc) p = true
sees (Global Tso) p = not (same_thread p.source p.reader)
sees (Global Pso) p = not (same_thread p.source p.reader)

-- the edges of the condition
abbrev pub Edge : Condition → Execution → Event → Event → Type 0
Edge Local x a b = LocalEdge x a b
Edge (Global m) x a b = GlobalEdge m x a b
