use Rattle.std.proofs.Common.{◌≡◌, ◌≢◌, ℕ, ◌<◌}
use Rattle.std.specs.Prelude.{slice_get, Some}
use Rattle.cdcl_worker.specs.declared.worker.Outcome.TheVariants.{OutOfMemory}
use Rattle.verdict_run.specs.declared.jobs.Ended.{Ended}
use Rattle.verdict_run.proofs.answers.wants_memory.Given as goal

abbrev pub invariant-loop-ended : goal.invariant-loop-ended
invariant-loop-ended l = (k : ℕ) (e : Ended) → k < l.ended-index → slice_get l.ends k ≡ Some e → e.outcome ≢ OutOfMemory
