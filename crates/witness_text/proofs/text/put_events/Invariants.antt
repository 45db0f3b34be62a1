use Rattle.std.proofs.Common.{◌≡◌, ◌++◌, drop}
use Rattle.std.specs.List.{AllByRecursion}
use Rattle.witness_text.specs.Spelling.{HasEventNumbers}
use Rattle.witness_text.specs.Witness.{events_text}
use Rattle.witness_text.proofs.text.put_events.Given as goal

-- what is written, with what is still to be written, is what was there with all; and if the events to come have numbers, all have
abbrev pub invariant-loop-event : goal.invariant-loop-event
invariant-loop-event l = record {
  text : l.out.items ++ events_text (drop l.event-index l.events) ≡ l.fn.out.items ++ events_text l.events;
  numbers : AllByRecursion HasEventNumbers (drop l.event-index l.events) → AllByRecursion HasEventNumbers l.events;
}
