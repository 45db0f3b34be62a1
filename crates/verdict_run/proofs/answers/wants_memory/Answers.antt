use Rattle.std.proofs.Common.{◌≢◌, length, refl, sym, ◌∙◌, arith}
use Rattle.std.proofs.lemmas.Option.{slice_get_read, slice_get_within}
use Rattle.cdcl_worker.specs.declared.worker.Outcome.TheVariants.{OutOfMemory}
use Rattle.verdict_run.specs.declared.jobs.Ended.{Ended}
use Rattle.verdict_run.proofs.Places.{next_place, not_false}
use Rattle.verdict_run.proofs.answers.wants_memory.Goals as goal
use Rattle.verdict_run.proofs.answers.wants_memory.Goals.{in-OutOfMemory, in_default}

pub loop-ended-preserved : goal.loop-ended-preserved
loop-ended-preserved c =
    let at = slice_get_read c.args.ends.now (length c.args.ends.now) c.loop-ended.ended-index c.ended-item.result refl c.loop-ended-test.true c.ended-item.is in
    next_place (λ (e : Ended). e.outcome ≢ OutOfMemory) c.args.ends.now c.loop-ended.ended-index c.ended-item.result at c.loop-ended.invariant
    (elim c.match-matches.branch [ in-OutOfMemory w ↦ (λ e. not_false (sym c.if-matches.false ∙ w.matches-is)) | in_default w ↦ w.in_default.not-OutOfMemory ])

pub returns : goal.returns
returns c = (
  (λ e. absurd (not_false e)),
  (λ want.
      let within = slice_get_within c.args.ends.now want.0 want.1 want.2 in
      absurd (c.loop-ended.invariant want.0 want.1 (omega (arith, within, c.loop-ended-test.false)) want.2 want.3)),
)
