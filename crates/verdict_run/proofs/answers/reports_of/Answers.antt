use Rattle.std.proofs.Common.{◌≡◌, inl, inr, length, length-append, refl, ap, sym, ◌∙◌, subst, arith}
use Rattle.std.specs.Prelude.{Some, slice_get}
use Rattle.std.proofs.lemmas.Option.{slice_get_read}
use Rattle.dg_base.proofs.Lists.{one_answer, get_map, get_push_cases}
use Rattle.verdict_run.specs.declared.jobs.Ended.{Ended}
use Rattle.verdict_run.specs.Searches.{IsReportOf, logs_of}
use Rattle.verdict_run.proofs.Places.{within_sum}
use Rattle.verdict_run.proofs.answers.reports_of.Goals as goal

pub overflow_cast-log : goal.overflow_cast-log
overflow_cast-log c =
    let at = slice_get_read c.args.ends.now (length c.args.ends.now) c.loop-number.number c.index-ends-number.result refl c.loop-number-test.true c.index-ends-number.is in
    let short = within_sum (logs_of c.args.ends.now) c.loop-number.number c.index-ends-number.result.worker.log.entries (get_map (λ (e : Ended). e.worker.log.entries) c.args.ends.now c.loop-number.number c.index-ends-number.result at) in
    omega (arith, short, c.requires.few, ap length c.log.ensures)

pub loop-number-preserved : goal.loop-number-preserved
loop-number-preserved c =
    let item = c.index-ends-number.result in
    let at = slice_get_read c.args.ends.now (length c.args.ends.now) c.loop-number.number item refl c.loop-number-test.true c.index-ends-number.is in
    record {
      long = ap length c.in_ok-push.ensures.ok ∙ length-append c.loop-number.reports _ ∙ omega (arith, c.loop-number.invariant.long);
      each = λ i ended r at_e at_r. elim (get_push_cases c.loop-number.reports _ i r (subst (λ rs. slice_get rs i ≡ Some r) c.in_ok-push.ensures.ok at_r)) [
        | inl h ↦ c.loop-number.invariant.each i ended r at_e h
        | inr h ↦
            let same : item ≡ ended = one_answer (slice_get c.args.ends.now i) item ended (subst (λ n. slice_get c.args.ends.now n ≡ Some item) (sym (h.0 ∙ c.loop-number.invariant.long)) at) at_e in
            subst (λ (e : Ended). IsReportOf i e r) same (subst (IsReportOf i item) (sym h.1) (record { worker_is = sym (h.0 ∙ c.loop-number.invariant.long); entries = ap length c.log.ensures; reads = c.in_ok-from_slice.ensures ∙ c.reads.ensures }))
      ];
    }
