use Rattle.std.proofs.Common.{◌≡◌, drop}
use Rattle.consistency.specs.Edges.{next_behind}
use Rattle.consistency.proofs.links.next_behind.Given as goal

abbrev pub invariant-loop-place : goal.invariant-loop-place
invariant-loop-place l = next_behind l.order l.event ≡ next_behind (drop l.place l.order) l.event
