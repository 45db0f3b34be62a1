use Rattle.std.proofs.Common.{◌≡◌, ◌-◌, length}
use Rattle.clause_exchange.specs.Seats.{exchange_of}
use Rattle.clause_exchange.specs.Steps.{mine}
use Rattle.cdcl_worker.specs.Searching.{IsSearching, IsLeft}
use Rattle.cdcl_worker.proofs.worker.Worker.search.Given as goal

abbrev pub invariant-loop-self : goal.invariant-loop-self
invariant-loop-self l = record {
  same : exchange_of l.seat ≡ exchange_of l.fn.seat;
  searching : IsSearching l.problem l.budget l.self l.seat.view;
  left : IsLeft (mine l.fn.seat.view) l.self l.seat.view;
}

abbrev pub decreases-loop-self : goal.decreases-loop-self
decreases-loop-self l = l.budget - length l.self.log.entries
