use Rattle.std.proofs.Common.{◌≡◌, ℕ, suc, ◌+◌, length}
use Rattle.clause_exchange.specs.Seats.{exchange_of}
use Rattle.verdict_run.specs.Searches.{AreJobs}
use Rattle.verdict_run.proofs.Seats.{IsRest}
use Rattle.verdict_run.proofs.jobs.jobs_of.Given as goal

abbrev pub invariant-loop-made : goal.invariant-loop-made
invariant-loop-made l = record {
  made : length l.jobs.items ≡ l.made;
  jobs : AreJobs l.exchange l.jobs.items;
  same : exchange_of l.seat ≡ l.exchange;
  rest : (count : ℕ) × (suc count + l.made ≡ l.workers) × IsRest l.exchange l.seat.view (suc count);
}
