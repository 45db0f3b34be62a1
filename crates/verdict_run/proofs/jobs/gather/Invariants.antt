use Rattle.std.proofs.Common.{◌≡◌, length}
use Rattle.clause_exchange.specs.Seats.{exchange_of}
use Rattle.verdict_run.specs.Searches.{AreTaken}
use Rattle.verdict_run.proofs.jobs.gather.Given as goal

abbrev pub invariant-loop-seat : goal.invariant-loop-seat
invariant-loop-seat l = record {
  same : exchange_of l.all ≡ l.exchange;
  taken : AreTaken l.fn.jobs.items l.jobs.items l.all.view.parts l.ends.items;
}

abbrev pub decreases-loop-seat : goal.decreases-loop-seat
decreases-loop-seat l = length l.jobs.items
