use Rattle.std.proofs.Common.{◌≡◌, ◌++◌, drop}
use Rattle.consistency.specs.Edges.{numbered_links}
use Rattle.consistency.proofs.edges.numbered_links.Given as goal

abbrev pub invariant-loop-link : goal.invariant-loop-link
invariant-loop-link l = numbered_links l.nodes l.links ≡ l.edges ++ numbered_links l.nodes (drop l.link-index l.links)
