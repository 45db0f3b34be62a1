-- What shows that a memory model does not allow an execution.
use Rattle.std.specs.Prelude.{◌≡◌, ℕ, ◌<◌, ◌≤◌, ◌⊎◌, List, [], ◌∷◌, Some, slice_get}
use Rattle.axiom_model.specs.declared.MemoryModel.{MemoryModel}
use Rattle.axiom_model.specs.declared.Action.{Action}
use Rattle.axiom_model.specs.declared.Event.{Event}
use Rattle.axiom_model.specs.declared.Event.TheVariants.{Initial, At}
use Rattle.axiom_model.specs.Cycles.{Cycle, NoCycle}
use Rattle.axiom_model.specs.Execution.{Execution, action_at, SameBlock}
use Rattle.axiom_model.specs.Models.{LocalEdge, GlobalEdge, Leaves}
use Rattle.consistency.specs.declared.Inconsistent.{Inconsistent}
use Rattle.consistency.specs.declared.Inconsistent.TheVariants.{LocalCycle, GlobalCycle, BlockCycle, OutOfMemory}

-- the first event is the second or comes before it, by handle, then by index
abbrev pub AtMost : Event → Event → Type 0
AtMost Initial b = Unit {0}
AtMost (At h i) Initial = ⊥
AtMost (At h i) (At k j) = (h < k) ⊎ ((h ≡ k) × (i ≤ j))

-- each event of the list is an action of a thread, so none is Initial
abbrev pub AreActions : Execution → List Event → Type 0
AreActions x l = (i : ℕ) (e : Event) → slice_get l i ≡ Some e → (p : Action) × (action_at x e ≡ Some p)

-- each event leads to the next by an edge, and the last to the first; none is repeated, and the first is the least
pub record IsEventCycle (x : Execution) (R : Event → Event → Type 0) (l : List Event) : Type 0 where
  pub cycle : Cycle R l
  pub once : (i j : ℕ) (e : Event) → slice_get l i ≡ Some e → slice_get l j ≡ Some e → i ≡ j
  pub least_first : (i : ℕ) (e f : Event) → slice_get l 0 ≡ Some e → slice_get l i ≡ Some f → AtMost e f
  pub actions : AreActions x l

-- the ends of pairs, one after the other
abbrev pub ends_of : List (Event × Event) → List Event
ends_of [] = []
ends_of (p ∷ ps) = p.0 ∷ p.1 ∷ ends_of ps

-- the list is pairs, one after the other: each is an edge that leaves a block and leads to the block where the next pair begins, the last to where the first begins; no block is entered twice, and the first pair begins at the least event at which one begins
pub record IsBlockCycle (m : MemoryModel) (x : Execution) (l : List Event) : Type 0 where
  pub pairs : List (Event × Event)
  pub listed : l ≡ ends_of pairs
  pub cycle : Cycle (Leaves m x) pairs
  pub once : (i j : ℕ) (p q : Event × Event) → slice_get pairs i ≡ Some p → slice_get pairs j ≡ Some q → SameBlock x p.1 q.1 → i ≡ j
  pub least_first : (i : ℕ) (p q : Event × Event) → slice_get pairs 0 ≡ Some p → slice_get pairs i ≡ Some q → AtMost p.0 q.0
  pub actions : AreActions x l

-- the answer is evidence against the first condition that is broken; want of memory shows nothing
abbrev pub IsEvidence : MemoryModel → Execution → Inconsistent → Type 0
IsEvidence m x (LocalCycle l) = IsEventCycle x (LocalEdge x) l
IsEvidence m x (GlobalCycle l) = NoCycle (LocalEdge x) × IsEventCycle x (GlobalEdge m x) l
IsEvidence m x (BlockCycle l) = NoCycle (LocalEdge x) × NoCycle (GlobalEdge m x) × IsBlockCycle m x l
IsEvidence m x OutOfMemory = Unit {0}

-- the answer's condition is the first that is broken
abbrev pub FirstBroken : MemoryModel → Execution → Inconsistent → Type 0
FirstBroken m x (LocalCycle l) = ¬ NoCycle (LocalEdge x)
FirstBroken m x (GlobalCycle l) = NoCycle (LocalEdge x) × (¬ NoCycle (GlobalEdge m x))
FirstBroken m x (BlockCycle l) = NoCycle (LocalEdge x) × NoCycle (GlobalEdge m x) × (¬ NoCycle (Leaves m x))
FirstBroken m x OutOfMemory = Unit {0}

-- the two answers name one condition, or one of them is want of memory
abbrev pub SameKind : Inconsistent → Inconsistent → Type 0
SameKind OutOfMemory f = Unit {0}
SameKind (LocalCycle l) (LocalCycle k) = Unit {0}
SameKind (LocalCycle l) OutOfMemory = Unit {0}
SameKind (GlobalCycle l) (GlobalCycle k) = Unit {0}
SameKind (GlobalCycle l) OutOfMemory = Unit {0}
SameKind (BlockCycle l) (BlockCycle k) = Unit {0}
SameKind (BlockCycle l) OutOfMemory = Unit {0}
SameKind _ _ = ⊥
