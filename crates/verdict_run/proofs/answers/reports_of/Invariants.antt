use Rattle.std.proofs.Common.{◌≡◌, ℕ, length}
use Rattle.std.specs.Prelude.{slice_get, Some}
use Rattle.verdict_run.specs.declared.jobs.Ended.{Ended}
use Rattle.verdict_run.specs.declared.decision.Report.{Report}
use Rattle.verdict_run.specs.Searches.{IsReportOf}
use Rattle.verdict_run.proofs.answers.reports_of.Given as goal

abbrev pub invariant-loop-number : goal.invariant-loop-number
invariant-loop-number l = record {
  long : length l.reports ≡ l.number;
  each : (i : ℕ) (ended : Ended) (r : Report) → slice_get l.ends i ≡ Some ended → slice_get l.reports i ≡ Some r → IsReportOf i ended r;
}
