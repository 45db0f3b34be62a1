-- An execution that orders accept is consistent.
use Rattle.std.specs.Prelude.{ℕ}
use Rattle.axiom_model.specs.declared.MemoryModel.{MemoryModel}
use Rattle.axiom_model.specs.declared.Event.{Event}
use Rattle.axiom_model.specs.Cycles.{NoCycle}
use Rattle.axiom_model.specs.Execution.{Execution, SameBlock}
use Rattle.axiom_model.specs.Models.{GlobalEdge, Leaves, Consistent}
use Rattle.axiom_model.specs.Orders.{Forward, BetweenBlocks, OneInEachBlock, Accept}
use Rattle.axiom_model.proofs.Orders.{forward-no_cycle, forward-no_block_cycle}

-- a rank that is one in each block and rises along every edge between blocks excludes cycles of blocks
pub forward-no_leaves_cycle : (m : MemoryModel) (x : Execution) (block : Event → ℕ) → OneInEachBlock x block → Forward block (BetweenBlocks m x) → NoCycle (Leaves m x)
forward-no_leaves_cycle m x block one f = forward-no_block_cycle (GlobalEdge m x) (SameBlock x) block one (λ a b e n. f a b (e, n))

-- an execution that three orders accept is consistent
pub accepted-consistent : (m : MemoryModel) (x : Execution) (local global block : Event → ℕ) → Accept m x local global block → Consistent m x
accepted-consistent m x local global block a = record {
  local = forward-no_cycle local a.local_forward;
  global = forward-no_cycle global a.global_forward;
  blocks = forward-no_leaves_cycle m x block a.one_in_each_block a.block_forward;
}
