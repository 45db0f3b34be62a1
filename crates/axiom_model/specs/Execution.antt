-- What the model sees of an execution: for each thread its actions and how it ended, the sources of the reads, and for each cell the order of its writes.
use Rattle.std.specs.Prelude.{◌≡◌, ◌≢◌, ℕ, ◌<◌, ◌≤◌, List, [], ◌∷◌, Bool, cond, Option, Some, None, ◌⊎◌, length, slice_get, nat_eq}
use Rattle.axiom_model.specs.declared.Action.{Action}
use Rattle.axiom_model.specs.declared.Action.TheVariants.{Read, Write, Open, Close}
use Rattle.axiom_model.specs.declared.Event.{Event}
use Rattle.axiom_model.specs.declared.Event.TheVariants.{Initial, At}
use Rattle.axiom_model.specs.declared.RfPair.{RfPair}

-- a thread: who it is, what it did, whether it came to its end, and whether it made a choice that no execution makes
pub record Thread : Type 0 where
  pub handle : ℕ
  pub function : ℕ
  pub arg : ℕ
  pub actions : List Action
  pub ended : Bool
  pub bad : Bool

-- the threads, a pair for each read, and for each cell the order of its writes
pub record Execution : Type 0 where
  pub threads : List Thread
  pub rf : List RfPair
  pub co : List (List Event)

-- the actions of the thread with this handle; none where there is no such thread
abbrev pub actions_of : List Thread → ℕ → List Action
actions_of [] h = []
actions_of (t ∷ ts) h = cond (nat_eq t.handle h) t.actions (actions_of ts h)

-- the action at an event; an initial write is no action
abbrev pub action_at : Execution → Event → Option Action
action_at x Initial = None
action_at x (At h i) = slice_get (actions_of x.threads h) i

-- the event is an action of this thread
abbrev pub IsOf : ℕ → Event → Type 0
IsOf h Initial = ⊥
IsOf h (At k i) = k ≡ h

-- both events are actions of one thread; an initial write is of no thread
abbrev pub SameThread : Event → Event → Type 0
SameThread a Initial = ⊥
SameThread a (At h i) = IsOf h a

-- the first stands before the second in one thread
abbrev pub Before : Event → Event → Type 0
Before (At h i) (At k j) = (h ≡ k) × (i < j)
Before _ _ = ⊥

-- program order, cut down to the pairs of actions of which P holds
pub record Ordered (x : Execution) (P : Action → Action → Type 0) (a b : Event) : Type 0 where
  pub before : Before a b
  pub first : Action
  pub second : Action
  pub is_first : action_at x a ≡ Some first
  pub is_second : action_at x b ≡ Some second
  pub holds : P first second

-- the cell that an action reads or writes
abbrev pub cell_of : Action → Option ℕ
cell_of (Read c v) = Some c
cell_of (Write c v) = Some c
cell_of _ = None

-- both actions read or write one cell
abbrev pub SameCell : Action → Action → Type 0
SameCell p q = (c : ℕ) × (cell_of p ≡ Some c) × (cell_of q ≡ Some c)

-- program order between reads and writes of one cell
abbrev pub LocalPo : Execution → Event → Event → Type 0
LocalPo x a b = Ordered x SameCell a b

-- from a read's source to the read
abbrev pub Rf : Execution → Event → Event → Type 0
Rf x s r = (k : ℕ) × (slice_get x.rf k ≡ Some (record { reader = r; source = s }))

-- a stands before b in the list
abbrev pub Precedes : List Event → Event → Event → Type 0
Precedes l a b = (i : ℕ) × (j : ℕ) × (i < j) × (slice_get l i ≡ Some a) × (slice_get l j ≡ Some b)

-- from a write of the cell to each later one
abbrev pub Co : Execution → ℕ → Event → Event → Type 0
Co x c a b = (l : List Event) × (slice_get x.co c ≡ Some l) × Precedes l a b

-- from a read to each write that is later than the read's source
pub record Fr (x : Execution) (r w : Event) : Type 0 where
  pub cell : ℕ
  pub value : ℕ
  pub source : Event
  pub reads : action_at x r ≡ Some (Read cell value)
  pub from : Rf x source r
  pub later : Co x cell source w

-- the section that opens at o holds the action at i: no Close stands from o up to i
pub record InSection (acts : List Action) (o i : ℕ) : Type 0 where
  pub opens : slice_get acts o ≡ Some Open
  pub from : o ≤ i
  pub there : i < length acts
  pub unclosed : (k : ℕ) → o ≤ k → k < i → slice_get acts k ≢ Some Close

-- some section holds both places
abbrev pub OneSection : List Action → ℕ → ℕ → Type 0
OneSection acts i j = (o : ℕ) × InSection acts o i × InSection acts o j

-- the actions of a section are one block; each other event is a block of its own
abbrev pub SameBlock : Execution → Event → Event → Type 0
SameBlock x Initial Initial = Unit {0}
SameBlock x (At h i) (At k j) = (h ≡ k) × ((i ≡ j) ⊎ OneSection (actions_of x.threads k) i j)
SameBlock _ _ _ = ⊥
