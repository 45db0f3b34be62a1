-- Orders in which every edge goes forward.
use Rattle.std.specs.Prelude.{◌≡◌, ℕ, ◌<◌}
use Rattle.axiom_model.specs.declared.MemoryModel.{MemoryModel}
use Rattle.axiom_model.specs.declared.Event.{Event}
use Rattle.axiom_model.specs.Execution.{Execution, SameBlock}
use Rattle.axiom_model.specs.Models.{LocalEdge, GlobalEdge}

-- the rank rises along every edge
abbrev pub Forward : {E : Type 0} → (E → ℕ) → (E → E → Type 0) → Type 0
Forward {E} rank R = (a b : E) → R a b → rank a < rank b

-- an edge from one block to another
abbrev pub BetweenBlocks : MemoryModel → Execution → Event → Event → Type 0
BetweenBlocks m x a b = GlobalEdge m x a b × (¬ SameBlock x a b)

-- the rank is one for all events of a block
abbrev pub OneInEachBlock : Execution → (Event → ℕ) → Type 0
OneInEachBlock x rank = (a b : Event) → SameBlock x a b → rank a ≡ rank b

-- three orders that accept an execution: one of events for the local condition, one of events and one of blocks for the global condition
pub record Accept (m : MemoryModel) (x : Execution) (local global block : Event → ℕ) : Type 0 where
  pub local_forward : Forward local (LocalEdge x)
  pub global_forward : Forward global (GlobalEdge m x)
  pub one_in_each_block : OneInEachBlock x block
  pub block_forward : Forward block (BetweenBlocks m x)
