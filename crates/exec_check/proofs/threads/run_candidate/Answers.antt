use Rattle.std.proofs.Common.{subst}
use Rattle.std.proofs.lemmas.Result.{on_ok_weaker, IfOk-weaker, IfErr-weaker}
use Rattle.exec_check.specs.declared.Reject.{Reject}
use Rattle.exec_check.specs.declared.threads.Done.{Done}
use Rattle.exec_check.specs.Conditions.{HasChildren}
use Rattle.exec_check.specs.Done.{HasDone}
use Rattle.exec_check.specs.Broken.{ThreadsBreak, IsFirstBroken}
use Rattle.exec_check.proofs.Stages.{threads_break}
use Rattle.exec_check.proofs.threads.run_candidate.Goals as goal

pub returns-clause-children : goal.returns-clause-children
returns-clause-children c =
    let p = c.args.checked.now in
    on_ok_weaker c.run_threads.result (λ (h : HasChildren p c.as_slice.result.now). subst (HasChildren p) c.as_slice.ensures h) c.run_threads.ensures.children

pub returns-clause-did : goal.returns-clause-did
returns-clause-did c =
    let p = c.args.checked.now in
    let k = c.args.candidate.now in
    IfOk-weaker c.run_threads.result (λ (d : Done). HasDone p c.as_slice.result.now d) (λ (d : Done). HasDone p k.threads d) (λ d h. subst (λ ts. HasDone p ts d) c.as_slice.ensures h) c.run_threads.ensures.did

pub returns-clause-broken : goal.returns-clause-broken
returns-clause-broken c =
    let p = c.args.checked.now in
    let k = c.args.candidate.now in
    λ m. IfErr-weaker c.run_threads.result (λ (e : Reject). ThreadsBreak p c.as_slice.result.now e) (λ (e : Reject). IsFirstBroken p m k e) (λ e h. threads_break p m k e (subst (λ ts. ThreadsBreak p ts e) c.as_slice.ensures h)) c.run_threads.ensures.broken
