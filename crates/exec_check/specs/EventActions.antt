-- The actions of an execution with their events.
use Rattle.std.specs.Prelude.{ℕ, ◌+◌, List, [], ◌∷◌, ◌++◌, Bool, true, false, ◌&&◌, ◌||◌, nat_eq, nat_lt, ◌≡◌, ◌<◌, Some, slice_get}
use Rattle.axiom_model.specs.declared.Action.{Action}
use Rattle.axiom_model.specs.declared.Event.{Event}
use Rattle.axiom_model.specs.declared.Event.TheVariants.{Initial, At}
use Rattle.axiom_model.specs.Execution.{Execution, action_at}
use Rattle.consistency.specs.declared.ThreadActions.{ThreadActions}
use Rattle.exec_check.specs.declared.event_actions.EventAction.{EventAction}
use Rattle.exec_check.specs.First.{Below}

-- the actions of the thread with this handle, of which the first has the index i
abbrev pub actions_from : ℕ → ℕ → List Action → List EventAction
actions_from h i [] = []
actions_from h i (a ∷ acts) = record { event = At h i; action = a } ∷ actions_from h (i + 1) acts

-- all actions with their events, thread by thread
abbrev pub event_actions : List ThreadActions → List EventAction
event_actions [] = []
event_actions (t ∷ ts) = actions_from t.handle 0 t.actions ++ event_actions ts

abbrev pub event_of : EventAction → Event
event_of w = w.event

-- the first event comes before the second
abbrev pub is_below : Event → Event → Bool
is_below Initial Initial = false
is_below Initial (At k j) = true
is_below (At h i) Initial = false
is_below (At h i) (At k j) = nat_lt h k || (nat_eq h k && nat_lt i j)

abbrev pub event_action : Event → Action → EventAction
event_action e a = record { event = e; action = a }

-- the list has exactly the actions of the execution, each with its event, in the order of events
pub record ListsActions (x : Execution) (ws : List EventAction) : Type 0 where
  pub sound : (k : ℕ) (w : EventAction) → slice_get ws k ≡ Some w → action_at x w.event ≡ Some w.action
  pub complete : (e : Event) (a : Action) → action_at x e ≡ Some a → (k : ℕ) × (slice_get ws k ≡ Some (event_action e a))
  pub ordered : (j k : ℕ) (v w : EventAction) → j < k → slice_get ws j ≡ Some v → slice_get ws k ≡ Some w → Below v.event w.event
