use Rattle.std.proofs.Common.{◌≡◌, ℕ, List, Some, length, ap, sym, subst, arith}
use Rattle.std.specs.Prelude.{slice_get}
use Rattle.std.proofs.lemmas.List.{length-append}
use Rattle.axiom_model.specs.declared.Event.{Event}
use Rattle.decode.specs.Relations.{IsLineOf}
use Rattle.decode.proofs.Lining.{lines_push}
use Rattle.decode.proofs.relations.orders.Goals as goal

pub order-requires-clause-apart : goal.order-requires-clause-apart
order-requires-clause-apart c = c.requires.apart c.loop-cell.cell

pub loop-cell-preserved : goal.loop-cell-preserved
loop-cell-preserved c = record {
  counted = omega (arith, ap (λ (l : List (List Event)). length l) c.in_ok-push.ensures.ok, length-append {A = List Event}, c.loop-cell.invariant.counted);
  each = subst (λ (ls : List (List Event)). (k : ℕ) (line : List Event) → slice_get ls k ≡ Some line → IsLineOf c.args.truths.now c.args.events.now c.args.places.now c.args.ranks.now k (length c.args.events.now) line) (sym c.in_ok-push.ensures.ok)
      (lines_push c.args.truths.now c.args.events.now c.args.places.now c.args.ranks.now c.loop-cell.cell c.loop-cell.orders c.in_ok-order.field-0 c.loop-cell.invariant.counted c.loop-cell.invariant.each c.in_ok-order.ensures);
}
