use Rattle.std.proofs.Common.{◌≡◌}
use Rattle.clause_exchange.specs.Steps.{mine}
use Rattle.clause_exchange.specs.Seats.{exchange_of}
use Rattle.clause_exchange.specs.Calls.{HasOne}
use Rattle.search_tests.proofs.exchange.rows.read_first.Given as goal

abbrev pub invariant-loop-ticket : goal.invariant-loop-ticket
invariant-loop-ticket l = record {
  same : exchange_of l.seat ≡ exchange_of l.fn.seat;
  one : HasOne l.seat.view;
  number : (mine l.seat.view).number ≡ (mine l.fn.seat.view).number;
}
