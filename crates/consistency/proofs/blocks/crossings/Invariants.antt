use Rattle.std.proofs.Common.{◌≡◌, ◌++◌, drop}
use Rattle.consistency.specs.Blocks.{crossings}
use Rattle.consistency.proofs.blocks.crossings.Given as goal

abbrev pub invariant-loop-block : goal.invariant-loop-block
invariant-loop-block l = crossings l.nodes l.edges l.first l.rest l.first ≡ l.ends ++ crossings l.nodes l.edges l.last (drop l.block-index l.rest) l.first
