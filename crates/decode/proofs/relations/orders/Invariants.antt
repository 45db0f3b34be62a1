use Rattle.std.proofs.Common.{◌≡◌, ℕ, List, Some, length}
use Rattle.std.specs.Prelude.{slice_get}
use Rattle.axiom_model.specs.declared.Event.{Event}
use Rattle.decode.specs.Relations.{IsLineOf}
use Rattle.decode.proofs.relations.orders.Given as goal

abbrev pub invariant-loop-cell : goal.invariant-loop-cell
invariant-loop-cell l = record {
  counted : length l.orders ≡ l.cell;
  each : (c : ℕ) (line : List Event) → slice_get l.orders c ≡ Some line → IsLineOf l.truths l.events l.places l.ranks c (length l.events) line;
}
