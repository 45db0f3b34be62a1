-- The actions of all threads, numbered thread by thread, and the block in which each stands.
use Rattle.std.specs.Prelude.{◌≡◌, ℕ, ◌+◌, ◌<◌, ◌≤◌, ◌⊎◌, List, [], ◌∷◌, ◌++◌, Bool, true, false, ◌&&◌, cond, Option, Some, None, unwrap_or, length, slice_get, nat_eq}
use Rattle.axiom_model.specs.declared.Action.{Action}
use Rattle.axiom_model.specs.declared.Action.TheVariants.{Open, Close}
use Rattle.axiom_model.specs.declared.Event.{Event}
use Rattle.axiom_model.specs.declared.Event.TheVariants.{Initial, At}
use Rattle.axiom_model.specs.Execution.{Execution, action_at, SameBlock}
use Rattle.consistency.specs.declared.ThreadActions.{ThreadActions}
use Rattle.consistency.specs.declared.numbering.Node.{Node}

abbrev pub is_open : Action → Bool
is_open Open = true
is_open _ = false

abbrev pub is_close : Action → Bool
is_close Close = true
is_close _ = false

-- where the section opens that holds the action at i, by where one is open before it
abbrev pub open_at : Option ℕ → ℕ → Action → Option ℕ
open_at (Some o) i a = Some o
open_at None i a = cond (is_open a) (Some i) None

-- where the section opens that is open behind the action
abbrev pub open_behind : Option ℕ → ℕ → Action → Option ℕ
open_behind s i a = cond (is_close a) None (open_at s i a)

-- the nodes of a thread from index i on; its first action has the number `first`
abbrev pub thread_nodes : ℕ → ℕ → Option ℕ → ℕ → List Action → List Node
thread_nodes h first s i [] = []
thread_nodes h first s i (a ∷ acts) =
    record { handle = h; index = i; action = a; block = first + unwrap_or (open_at s i a) i } ∷ thread_nodes h first (open_behind s i a) (i + 1) acts

-- the nodes of threads, of which the first action has the number n
abbrev pub nodes_of : ℕ → List ThreadActions → List Node
nodes_of n [] = []
nodes_of n (t ∷ ts) = thread_nodes t.handle n None 0 t.actions ++ nodes_of (n + length t.actions) ts

abbrev pub node_event : Node → Event
node_event v = At v.handle v.index

abbrev pub is_event : Node → Event → Bool
is_event v Initial = false
is_event v (At h i) = nat_eq v.handle h && nat_eq v.index i

-- the number of an event among nodes of which the first has the number n
abbrev pub place_from : ℕ → List Node → Event → Option ℕ
place_from n [] e = None
place_from n (v ∷ vs) e = cond (is_event v e) (Some n) (place_from (n + 1) vs e)

abbrev pub place_of : List Node → Event → Option ℕ
place_of nodes e = place_from 0 nodes e

abbrev pub event_of : Option Node → Event
event_of None = Initial
event_of (Some v) = node_event v

-- the event with a number
abbrev pub event_at : List Node → ℕ → Event
event_at nodes n = event_of (slice_get nodes n)

abbrev pub block_of : Option Node → ℕ
block_of None = 0
block_of (Some v) = v.block

-- the block of the event with a number
abbrev pub block_at : List Node → ℕ → ℕ
block_at nodes n = block_of (slice_get nodes n)

-- the first node's event comes before the second's, by handle, then by index
abbrev pub Earlier : Node → Node → Type 0
Earlier v w = (v.handle < w.handle) ⊎ ((v.handle ≡ w.handle) × (v.index < w.index))

-- the nodes are the actions of the execution, by handle and index; two are of one block where their block is one, and the blocks rise
pub record IsNumbering (x : Execution) (nodes : List Node) : Type 0 where
  pub complete : (h i : ℕ) (p : Action) → action_at x (At h i) ≡ Some p → (n : ℕ) × (v : Node) × (slice_get nodes n ≡ Some v) × (v.handle ≡ h) × (v.index ≡ i)
  pub sound : (n : ℕ) (v : Node) → slice_get nodes n ≡ Some v → action_at x (node_event v) ≡ Some v.action
  pub rising : (n m : ℕ) (v w : Node) → n < m → slice_get nodes n ≡ Some v → slice_get nodes m ≡ Some w → Earlier v w
  pub same_block : (n m : ℕ) (v w : Node) → slice_get nodes n ≡ Some v → slice_get nodes m ≡ Some w → v.block ≡ w.block → SameBlock x (node_event v) (node_event w)
  pub one_block : (n m : ℕ) (v w : Node) → slice_get nodes n ≡ Some v → slice_get nodes m ≡ Some w → SameBlock x (node_event v) (node_event w) → v.block ≡ w.block
  pub block_below : (n : ℕ) (v : Node) → slice_get nodes n ≡ Some v → v.block < length nodes
  pub block_rises : (n m : ℕ) (v w : Node) → n ≤ m → slice_get nodes n ≡ Some v → slice_get nodes m ≡ Some w → v.block ≤ w.block
