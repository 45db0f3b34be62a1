-- Executions by their events: the actions of each handle, and the source of each read, with ranks in which each edge rises.
use Rattle.std.specs.Prelude.{◌≡◌, ℕ, ◌<◌, List, true, Option, Some, None, ◌⊎◌, slice_get, length}
use Rattle.axiom_model.specs.declared.MemoryModel.{MemoryModel}
use Rattle.axiom_model.specs.declared.MemoryModel.TheVariants.{Tso, Pso}
use Rattle.axiom_model.specs.declared.Action.{Action}
use Rattle.axiom_model.specs.declared.Action.TheVariants.{Read, Write, Create, Join, Start, End}
use Rattle.axiom_model.specs.declared.Event.{Event}
use Rattle.axiom_model.specs.declared.Event.TheVariants.{Initial, At}
use Rattle.axiom_model.specs.Execution.{SameCell, SameThread, Before, OneSection}
use Rattle.axiom_model.specs.Models.{keeps}
use Rattle.axiom_model.specs.WellMade.{Shape}

pub record World : Type 0 where
  pub acts : ℕ → List Action
  pub source : Event → Event
  pub local : Event → ℕ
  pub global : Event → ℕ
  pub block : Event → ℕ

-- the action at an event; an initial write is no action
abbrev pub made_at : (ℕ → List Action) → Event → Option Action
made_at acts Initial = None
made_at acts (At h i) = slice_get (acts h) i

-- the event is an initial write or an action
abbrev pub Exists : (ℕ → List Action) → Event → Type 0
Exists acts Initial = Unit {0}
Exists acts (At h i) = i < length (acts h)

-- the event writes the value to the cell
abbrev pub WritesTo : Shape → (ℕ → List Action) → Event → ℕ → ℕ → Type 0
WritesTo s acts Initial c v = slice_get s.initials c ≡ Some v
WritesTo s acts (At h i) c v = slice_get (acts h) i ≡ Some (Write c v)

-- both events are of one block
abbrev pub InBlock : (ℕ → List Action) → Event → Event → Type 0
InBlock acts Initial Initial = Unit {0}
InBlock acts (At h i) (At k j) = (h ≡ k) × ((i ≡ j) ⊎ OneSection (acts k) i j)
InBlock acts _ _ = ⊥

-- ---- the local condition, where no model is given, and the global one of a model

abbrev pub Related : Option MemoryModel → Action → Action → Type 0
Related None p q = SameCell p q
Related (Some m) p q = keeps m p q ≡ true

abbrev pub IsGlobal : Option MemoryModel → Type 0
IsGlobal None = ⊥
IsGlobal (Some m) = Unit {0}

abbrev pub IsSeen : Option MemoryModel → Event → Event → Type 0
IsSeen (Some Tso) a b = SameThread a b → ⊥
IsSeen (Some Pso) a b = SameThread a b → ⊥
IsSeen _ a b = Unit {0}

-- the edges of the condition; a write of a cell precedes another one where its global rank is lower
pub data Edge (k : Option MemoryModel) (s : Shape) (acts : ℕ → List Action) (source : Event → Event) (rank : Event → ℕ) : Event → Event → Type 0 where
  in_thread : {a b : Event} (p q : Action) → Before a b → made_at acts a ≡ Some p → made_at acts b ≡ Some q → Related k p q → Edge k s acts source rank a b
  in_section : {a b : Event} (p q : Action) → IsGlobal k → Before a b → made_at acts a ≡ Some p → made_at acts b ≡ Some q → InBlock acts a b → Edge k s acts source rank a b
  creates : {a b : Event} (h i f v : ℕ) → IsGlobal k → b ≡ At h i → made_at acts a ≡ Some (Create h f v) → made_at acts b ≡ Some Start → Edge k s acts source rank a b
  joins : {a b : Event} (h i : ℕ) → IsGlobal k → a ≡ At h i → made_at acts a ≡ Some End → made_at acts b ≡ Some (Join h) → Edge k s acts source rank a b
  initial : {a b : Event} (q : Action) → IsGlobal k → a ≡ Initial → made_at acts b ≡ Some q → Edge k s acts source rank a b
  reads : {a b : Event} (c v : ℕ) → a ≡ source b → made_at acts b ≡ Some (Read c v) → IsSeen k a b → Edge k s acts source rank a b
  writes : {a b : Event} (c u v : ℕ) → WritesTo s acts a c u → WritesTo s acts b c v → rank a < rank b → Edge k s acts source rank a b
  overtakes : {a b : Event} (c u v : ℕ) → made_at acts a ≡ Some (Read c u) → WritesTo s acts b c v → rank (source a) < rank b → Edge k s acts source rank a b

-- the ranks rise along each edge
pub record IsSound (m : MemoryModel) (s : Shape) (w : World) : Type 0 where
  pub local_rises : (a b : Event) → Edge None s w.acts w.source w.global a b → w.local a < w.local b
  pub global_rises : (a b : Event) → Edge (Some m) s w.acts w.source w.global a b → w.global a < w.global b
  pub block_rises : (a b : Event) → Edge (Some m) s w.acts w.source w.global a b → (InBlock w.acts a b → ⊥) → w.block a < w.block b
  pub one_block : (a b : Event) → InBlock w.acts a b → w.block a ≡ w.block b
  pub values : (r : Event) (c v : ℕ) → made_at w.acts r ≡ Some (Read c v) → WritesTo s w.acts (w.source r) c v
  pub differ : (a b : Event) → Exists w.acts a → Exists w.acts b → w.global a ≡ w.global b → a ≡ b
