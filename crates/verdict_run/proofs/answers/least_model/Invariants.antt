use Rattle.std.proofs.Common.{◌≡◌, List, ◌++◌, length}
use Rattle.std.specs.Prelude.{MatchOption}
use Rattle.verdict_run.specs.declared.jobs.Ended.{Ended}
use Rattle.verdict_run.specs.Searches.{NoModelFrom, IsFirstModel}
use Rattle.verdict_run.proofs.answers.least_model.Given as goal

abbrev pub invariant-loop-worker : goal.invariant-loop-worker
invariant-loop-worker l = record {
  rest : (taken : List Ended) × (l.fn.ends.items ≡ l.ends.items ++ taken);
  model : MatchOption l.model (NoModelFrom (length l.ends.items) l.fn.ends.items) (IsFirstModel (length l.ends.items) l.fn.ends.items);
}

abbrev pub decreases-loop-worker : goal.decreases-loop-worker
decreases-loop-worker l = length l.ends.items
