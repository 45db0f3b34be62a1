use Rattle.std.proofs.Common.{◌≡◌, ◌++◌, drop}
use Rattle.consistency.specs.Edges.{source_links}
use Rattle.consistency.proofs.links.source_links.Given as goal

abbrev pub invariant-loop-pair : goal.invariant-loop-pair
invariant-loop-pair l = source_links l.condition l.rf ≡ l.links ++ source_links l.condition (drop l.pair-index l.rf)
