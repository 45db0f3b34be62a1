use Rattle.std.proofs.Common.{◌≡◌, ◌++◌, drop}
use Rattle.consistency.specs.Edges.{later_links}
use Rattle.consistency.proofs.links.later_links.Given as goal

abbrev pub invariant-loop-pair : goal.invariant-loop-pair
invariant-loop-pair l = later_links l.nodes l.co l.rf ≡ l.links ++ later_links l.nodes l.co (drop l.pair-index l.rf)
