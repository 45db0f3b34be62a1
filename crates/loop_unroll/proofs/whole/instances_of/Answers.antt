use Rattle.std.proofs.Common.{◌≡◌, ◌+◌, [], ◌∷◌, ◌++◌, length, drop, sym, ap, ◌∙◌, subst, length-append}
use Rattle.emit_steps.specs.Tables.{setting_at}
use Rattle.loop_unroll.specs.Whole.{AreQueued, AreInstances}
use Rattle.loop_unroll.proofs.Emissions.{none_wait, one_waits}
use Rattle.loop_unroll.proofs.whole.instances_of.Goals as goal

pub returns-in-None-clause-queue : goal.returns-in-None-clause-queue
returns-in-None-clause-queue c = none_wait (setting_at c.args.table.now) (length c.loop-n.functions) c.loop-n.n c.loop-n.functions c.loop-n.instances c.args.main (sym c.in-None.ensures.value) c.loop-n.invariant.queued

pub loop-n-preserved : goal.loop-n-preserved
loop-n-preserved c =
    let pushed : c.push-in-loop-n.new.self ≡ c.loop-n.instances ++ c.in_ok-instance.instance ∷ [] = c.in_ok-push-2.ensures.ok in
    let appended : c.append.new.self ≡ c.loop-n.functions ++ c.in_ok-instance.created = c.in_ok-append.ensures in
    let many : c.in-Ok.first ≡ length c.loop-n.functions = c.in-Ok.ensures.1 ∙ c.len.ensures in
    record {
      queued = λ rest q.
          subst (λ xs. AreInstances (setting_at c.args.table.now) c.args.main (xs ++ rest)) (sym pushed)
          (one_waits (setting_at c.args.table.now) c.in-Ok.first c.loop-n.n c.in-Some.function.now c.loop-n.functions c.in_ok-instance.created c.loop-n.instances c.args.main c.in_ok-instance.instance c.in_ok-emitter.emitter (sym c.in-Some.ensures.value)
          c.in_ok-emitter.ensures c.in_ok-instance.ensures.0 c.in_ok-instance.ensures.1 many c.loop-n.invariant.queued rest (subst (λ xs. AreQueued (setting_at c.args.table.now) (length xs) (drop (c.loop-n.n + 1) xs) rest) appended q));
      count = ap length pushed ∙ (length-append c.loop-n.instances (c.in_ok-instance.instance ∷ []) ∙ ap (λ n. n + 1) c.loop-n.invariant.count);
    }
