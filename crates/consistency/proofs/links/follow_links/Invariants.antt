use Rattle.std.proofs.Common.{◌≡◌, ◌++◌, drop}
use Rattle.consistency.specs.Edges.{follow_links}
use Rattle.consistency.proofs.links.follow_links.Given as goal

abbrev pub invariant-loop-event : goal.invariant-loop-event
invariant-loop-event l = follow_links l.fn.first l.rest ≡ l.links ++ follow_links l.last (drop l.event-index l.rest)
