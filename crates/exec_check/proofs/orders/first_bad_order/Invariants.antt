use Rattle.std.proofs.Common.{◌≡◌, drop}
use Rattle.exec_check.specs.ActionTests as tests
use Rattle.exec_check.proofs.orders.first_bad_order.Given as goal

abbrev pub invariant-loop-list : goal.invariant-loop-list
invariant-loop-list l = record {
  counted : l.cell ≡ l.list-index;
  left : tests.bad_order_from l.event_actions l.cells l.cell (drop l.list-index l.co) ≡ tests.bad_order_from l.event_actions l.cells 0 l.co;
}
