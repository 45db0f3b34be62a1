use Rattle.std.proofs.Common.{◌≡◌, refl, sym, subst, ◌∙◌}
use Rattle.std.proofs.lemmas.Result.{err_from_is_err_and}
use Rattle.consistency.specs.Seen.{execution_seen}
use Rattle.exec_check.specs.Running.{execution_in}
use Rattle.exec_check.proofs.Ran.{none_fails}
use Rattle.exec_check.proofs.Whole.{program_fails, first_to_fail, seen_is}
use Rattle.exec_check.proofs.check_execution.Goals as goal

pub check_model-requires-clause-seen : goal.check_model-requires-clause-seen
check_model-requires-clause-seen c =
    let p = c.args.checked.now in
    let k = c.args.candidate.now in
    subst (λ ts. execution_seen ts k.rf k.co ≡ execution_in p k) (sym c.as_slice.ensures) (seen_is p k k.threads c.in_ok-done.done.threads refl c.in_ok-done.ensures.did.seen)

pub returns-in_err-done-clause-broken : goal.returns-in_err-done-clause-broken
returns-in_err-done-clause-broken c =
    let e = err_from_is_err_and c.from_residual.result c.from_residual.ensures.1 in
    rw (e.1, e.2) (c.in_err-done.ensures.broken c.args.model)

pub returns-in_err-check_actions-clause-broken : goal.returns-in_err-check_actions-clause-broken
returns-in_err-check_actions-clause-broken c =
    let e = err_from_is_err_and c.from_residual-in_err-check_actions.result c.from_residual-in_err-check_actions.ensures.1 in
    rw (e.1, e.2) (c.in_err-check_actions.ensures.broken c.args.model)

pub returns-in-Some-clause-fails : goal.returns-in-Some-clause-fails
returns-in-Some-clause-fails c =
    program_fails c.args.checked.now c.args.model c.args.candidate.now c.in-Some.failing c.in_ok-check_actions.ensures.whole c.in_ok-check_model.ensures.allowed (sym c.in_ok-done.ensures.did.failing ∙ c.in-Some.is)

pub returns-in-Some-clause-first : goal.returns-in-Some-clause-first
returns-in-Some-clause-first c =
    first_to_fail c.args.checked.now c.args.candidate.now c.in-Some.failing (sym c.in_ok-done.ensures.did.failing ∙ c.in-Some.is)

pub returns-clause-broken : goal.returns-clause-broken
returns-clause-broken c =
    (c.in_ok-check_actions.ensures.whole, c.in_ok-check_model.ensures.allowed, none_fails c.args.checked.now c.args.candidate.now.threads (sym c.in_ok-done.ensures.did.failing ∙ c.in-None.is))
