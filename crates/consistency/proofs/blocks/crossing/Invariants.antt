use Rattle.std.proofs.Common.{◌≡◌, drop}
use Rattle.consistency.specs.Blocks.{crossing}
use Rattle.consistency.proofs.blocks.crossing.Given as goal

abbrev pub invariant-loop-edge : goal.invariant-loop-edge
invariant-loop-edge l = crossing l.nodes l.source l.target l.edges ≡ crossing l.nodes l.source l.target (drop l.edge-index l.edges)
