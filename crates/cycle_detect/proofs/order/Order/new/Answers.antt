use Rattle.std.proofs.Common.{arith, rules}
use Rattle.cycle_detect.proofs.Whole.{parts_new, kept_new}
use Rattle.cycle_detect.proofs.order.Order.new.Goals as goal

pub invariant_of-result : goal.invariant_of-result
invariant_of-result c =
    rw c.in_ok-new.ensures (
      parts_new c.args.nodes c.args.max_edges c.in_ok-in_turn.field-0.items c.in_ok-in_turn-2.field-0.items c.in_ok-with_capacity-3.field-0.items c.in_ok-from_elem.field-0.items (omega (arith, c.ranges.nodes)) c.in_ok-in_turn.ensures.long c.in_ok-in_turn.ensures.each c.in_ok-in_turn-2.ensures.long c.in_ok-in_turn-2.ensures.each (c.in_ok-from_elem.ensures.items_if_clones_equal (search rules)),
      omega (arith, c.in_ok-with_capacity.ensures.exact),
      omega (arith, c.in_ok-with_capacity-2.ensures.exact),
      omega (arith, c.in_ok-with_capacity-3.ensures.exact),
    )

pub returns-clause-kept : goal.returns-clause-kept
returns-clause-kept c =
    rw c.in_ok-new.ensures (kept_new c.args.nodes c.args.max_edges c.in_ok-in_turn.field-0.items c.in_ok-with_capacity-3.field-0.items c.in_ok-in_turn.ensures.long c.in_ok-in_turn.ensures.each)
