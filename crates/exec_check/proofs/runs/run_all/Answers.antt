use Rattle.std.proofs.Common.{◌≡◌, None, Some, sym, subst, ⊎_elim}
use Rattle.std.specs.Prelude.{◌⊎◌}
use Rattle.std.proofs.lemmas.Result.{on_ok_weaker, IfErr-weaker}
use Rattle.axiom_model.specs.Failing.{HasWords}
use Rattle.exec_check.specs.declared.Reject.{Reject}
use Rattle.exec_check.specs.declared.Reject.TheVariants.{OutOfMemory}
use Rattle.exec_check.specs.Running.{alone}
use Rattle.exec_check.specs.Broken.{ThreadsBreak}
use Rattle.exec_check.specs.ThreadTests.{first_wrong}
use Rattle.exec_check.proofs.Ran.{none_wrong, wrong_is_broken}
use Rattle.exec_check.proofs.runs.run_all.Goals as goal

pub returns-clause-runs : goal.returns-clause-runs
returns-clause-runs c =
    let p = c.args.checked.now in
    let ps = c.args.parts.now in
    on_ok_weaker c.run_parts.result (λ (n : HasWords (alone ps) × (first_wrong p ps ≡ None)). record { threads = c.requires; words = n.0; runs = none_wrong p ps n.1 }) c.run_parts.ensures.well

pub returns-clause-broken : goal.returns-clause-broken
returns-clause-broken c =
    let p = c.args.checked.now in
    let ps = c.args.parts.now in
    IfErr-weaker c.run_parts.result (λ (e : Reject). (e ≡ OutOfMemory) ⊎ (first_wrong p ps ≡ Some e)) (ThreadsBreak p ps) (λ e h. ⊎_elim (λ z. subst (ThreadsBreak p ps) (sym z) tt) (λ w. wrong_is_broken p ps e c.requires w) h) c.run_parts.ensures.wrong
