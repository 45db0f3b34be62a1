use Rattle.std.proofs.Common.{◌≡◌, ℕ, ◌+◌}
use Rattle.clause_exchange.specs.Steps.{mine}
use Rattle.clause_exchange.specs.Seats.{exchange_of}
use Rattle.search_tests.specs.Ready.{IsReady}
use Rattle.search_tests.proofs.exchange.rows.append_some.Given as goal

abbrev pub invariant-loop-i : goal.invariant-loop-i
invariant-loop-i l = record {
  same : exchange_of l.seat ≡ exchange_of l.fn.seat;
  number : (mine l.seat.view).number ≡ (mine l.fn.seat.view).number;
  ready : (n : ℕ) → IsReady l.fn.seat.view (l._i + n) → IsReady l.seat.view n;
}
