use Rattle.std.proofs.Common.{◌≡◌, ◌++◌, drop, map}
use Rattle.consistency.specs.Numbering.{event_at}
use Rattle.consistency.proofs.cycles.events_at.Given as goal

abbrev pub invariant-loop-number : goal.invariant-loop-number
invariant-loop-number l = map (event_at l.nodes) l.numbers ≡ l.events ++ map (event_at l.nodes) (drop l.number-index l.numbers)
