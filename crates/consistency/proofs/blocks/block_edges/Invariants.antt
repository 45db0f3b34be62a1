use Rattle.std.proofs.Common.{◌≡◌, ◌++◌, drop}
use Rattle.consistency.specs.Blocks.{block_edges}
use Rattle.consistency.proofs.blocks.block_edges.Given as goal

abbrev pub invariant-loop-edge : goal.invariant-loop-edge
invariant-loop-edge l = block_edges l.nodes l.edges ≡ l.between ++ block_edges l.nodes (drop l.edge-index l.edges)
