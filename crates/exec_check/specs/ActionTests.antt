-- What the code computes of an execution's actions, sources and orders, by recursion over lists.
use Rattle.std.specs.Prelude.{ℕ, ◌+◌, List, [], ◌∷◌, Bool, true, false, ◌&&◌, ◌||◌, not, cond, Option, Some, None, slice_get, nat_eq, nat_lt}
use Rattle.std.specs.List.{list_any, list_all}
use Rattle.axiom_model.specs.declared.Action.{Action}
use Rattle.axiom_model.specs.declared.Action.TheVariants.{Read, Write, Create, Join}
use Rattle.axiom_model.specs.declared.Event.{Event}
use Rattle.axiom_model.specs.declared.Event.TheVariants.{Initial, At}
use Rattle.axiom_model.specs.declared.RfPair.{RfPair}
use Rattle.axiom_model.specs.declared.ThreadPart.{ThreadPart}
use Rattle.c_check.specs.declared.checked.CellInfo.{CellInfo}
use Rattle.consistency.specs.declared.ThreadActions.{ThreadActions}
use Rattle.consistency.specs.Edges.{same_event}
use Rattle.exec_check.specs.declared.event_actions.EventAction.{EventAction}
use Rattle.exec_check.specs.ThreadTests.{passing}
use Rattle.exec_check.specs.EventActions.{is_below}

-- ---- creates

abbrev pub creates_by : ThreadPart → Action → Bool
creates_by t (Create h f v) = nat_eq h t.handle && (nat_eq f t.function && nat_eq v t.arg)
creates_by t _ = false

abbrev pub creates : ThreadPart → EventAction → Bool
creates t w = creates_by t w.action

-- main, or some action creates the thread
abbrev pub is_created : List EventAction → ThreadPart → Bool
is_created ws t = nat_eq t.handle 0 || list_any (creates t) ws

abbrev pub has_handle : ℕ → ThreadPart → Bool
has_handle h t = nat_eq t.handle h

abbrev pub child_there : List ThreadPart → Action → Bool
child_there ts (Create h f v) = list_any (has_handle h) ts
child_there ts _ = true

abbrev pub has_child : List ThreadPart → EventAction → Bool
has_child ts w = child_there ts w.action

abbrev pub child : Action → ℕ
child (Create h f v) = h
child _ = 0

abbrev pub child_of : EventAction → ℕ
child_of w = child w.action

-- ---- joins

abbrev pub has_ended : ℕ → ThreadActions → Bool
has_ended h t = nat_eq t.handle h && t.ended

abbrev pub end_there : List ThreadActions → Action → Bool
end_there ts (Join h) = not (nat_eq h 0) && list_any (has_ended h) ts
end_there ts _ = true

abbrev pub joins_ended : List ThreadActions → EventAction → Bool
joins_ended ts w = end_there ts w.action

-- ---- sources

abbrev pub is_write_of : ℕ → ℕ → Action → Bool
is_write_of c v (Write d u) = nat_eq d c && nat_eq u v
is_write_of c v _ = false

-- the event_action is the event, a write of the value to the cell
abbrev pub writes_at : Event → ℕ → ℕ → EventAction → Bool
writes_at e c v w = same_event w.event e && is_write_of c v w.action

abbrev pub begins_as : Option CellInfo → ℕ → Bool
begins_as None v = false
begins_as (Some i) v = nat_eq i.initial v

abbrev pub is_source : List CellInfo → List EventAction → ℕ → ℕ → Event → Bool
is_source cells ws c v Initial = begins_as (slice_get cells c) v
is_source cells ws c v (At h i) = list_any (writes_at (At h i) c v) ws

abbrev pub reads_at : Event → RfPair → Bool
reads_at e p = same_event p.reader e

-- the pair has the reader, and a source that writes the value to the cell
abbrev pub gives : List CellInfo → List EventAction → Event → ℕ → ℕ → RfPair → Bool
gives cells ws e c v p = reads_at e p && is_source cells ws c v p.source

abbrev pub source_there : List CellInfo → List EventAction → List RfPair → Event → Action → Bool
source_there cells ws rf e (Read c v) = nat_eq (passing (reads_at e) rf) 1 && list_any (gives cells ws e c v) rf
source_there cells ws rf e _ = true

abbrev pub has_source : List CellInfo → List EventAction → List RfPair → EventAction → Bool
has_source cells ws rf w = source_there cells ws rf w.event w.action

abbrev pub is_read : Action → Bool
is_read (Read c v) = true
is_read _ = false

abbrev pub is_read_at : Event → EventAction → Bool
is_read_at e w = same_event w.event e && is_read w.action

-- the lesser of two events, of which the first may be missing
abbrev pub lesser : Option Event → Event → Event
lesser None e = e
lesser (Some f) e = cond (is_below e f) e f

-- the least of an event and the readers that are no reads
abbrev pub least_unread : List EventAction → Option Event → List RfPair → Option Event
least_unread ws least [] = least
least_unread ws least (p ∷ ps) = least_unread ws (cond (list_any (is_read_at p.reader) ws) least (Some (lesser least p.reader))) ps

-- ---- orders

abbrev pub has_event : List Event → Event → Bool
has_event l e = list_any (same_event e) l

abbrev pub no_repeats : List Event → Bool
no_repeats [] = true
no_repeats (e ∷ es) = not (has_event es e) && no_repeats es

abbrev pub writes_cell : ℕ → Action → Bool
writes_cell c (Write d v) = nat_eq d c
writes_cell c _ = false

abbrev pub is_write_at : ℕ → Event → EventAction → Bool
is_write_at c e w = same_event w.event e && writes_cell c w.action

abbrev pub is_write : List EventAction → ℕ → Event → Bool
is_write ws c e = list_any (is_write_at c e) ws

-- the event_action is no write of the cell, or the list has it
abbrev pub is_listed : ℕ → List Event → EventAction → Bool
is_listed c l w = not (writes_cell c w.action) || has_event l w.event

abbrev pub orders_cell : List EventAction → ℕ → List Event → Bool
orders_cell ws c [] = false
orders_cell ws c (e ∷ es) = same_event Initial e && (no_repeats es && (list_all (is_write ws c) es && list_all (is_listed c es) ws))

-- the first number from c on that is a cell without its order, or behind the cells the number of a list
abbrev pub bad_order_from : List EventAction → ℕ → ℕ → List (List Event) → Option ℕ
bad_order_from ws cells c [] = cond (nat_lt c cells) (Some c) None
bad_order_from ws cells c (l ∷ ls) = cond (nat_lt c cells && orders_cell ws c l) (bad_order_from ws cells (c + 1) ls) (Some c)
