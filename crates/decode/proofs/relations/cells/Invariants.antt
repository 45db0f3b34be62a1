use Rattle.std.proofs.Common.{◌≡◌, ◌+◌, ◌≤◌, drop}
use Rattle.encode_match.specs.Spelling.{initials_in}
use Rattle.decode.proofs.relations.cells.Given as goal

abbrev pub invariant-loop-event : goal.invariant-loop-event
invariant-loop-event l = record {
  sum : l.cells + initials_in (drop l.event-index l.events) ≡ initials_in l.events;
  low : l.cells ≤ l.event-index;
}
