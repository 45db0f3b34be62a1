use Rattle.std.proofs.Common.{◌≡◌, drop}
use Rattle.consistency.specs.Edges.{cell_in}
use Rattle.consistency.proofs.links.cell_in.Given as goal

abbrev pub invariant-loop-node : goal.invariant-loop-node
invariant-loop-node l = cell_in l.nodes l.event ≡ cell_in (drop l.node-index l.nodes) l.event
