use Rattle.std.proofs.Common.{◌≡◌, ◌++◌, drop}
use Rattle.consistency.specs.Edges.{co_links}
use Rattle.consistency.proofs.links.co_links.Given as goal

abbrev pub invariant-loop-order : goal.invariant-loop-order
invariant-loop-order l = co_links l.co ≡ l.links ++ co_links (drop l.order-index l.co)
