use Rattle.std.proofs.Common.{◌≡◌, ◌≤◌, List, Some, length, take, refl, subst}
use Rattle.std.specs.Prelude.{slice_get}
use Rattle.std.proofs.lemmas.Option.{slice_get_read}
use Rattle.std.proofs.lemmas.Result.{IfOk-weaker, err_from_is_err_and}
use Rattle.cnf_problem.specs.declared.problem.Problem.{Problem}
use Rattle.lemma_log.specs.declared.Entry.{Entry}
use Rattle.log_checker.specs.Checking.{HasTaken}
use Rattle.log_checker.specs.Goodness.{EndsEmpty, IsGood}
use Rattle.log_checker.specs.Refusals.{IsRefusal}
use Rattle.log_checker.specs.declared.checker.Accepted.{Accepted}
use Rattle.log_checker.specs.declared.refused.Refused.{Refused}
use Rattle.log_checker.proofs.Outcomes.{always_ok, if_err}
use Rattle.log_checker.proofs.Taking.{next_ticket, refusal_at, taken_all, taken_next}
use Rattle.log_checker.proofs.checker.check_log.Goals as goal

pub loop-entry-init : goal.loop-entry-init
loop-entry-init c = c.in_ok-checker.ensures

pub entry-requires-clause-taken : goal.entry-requires-clause-taken
entry-requires-clause-taken c = (take c.loop-entry.entry-index c.args.log.now.entries, c.loop-entry.invariant)

pub entry-requires-clause-ticket : goal.entry-requires-clause-ticket
entry-requires-clause-ticket c =
    let i = c.loop-entry.entry-index in
    let e = c.entry-item.result in
    let at = subst (λ (z : List Entry). slice_get z i ≡ Some e) c.as_slice-entry-items.ensures (slice_get_read c.as_slice-entry-items.result.now (length c.as_slice-entry-items.result.now) i e refl c.loop-entry-test.true c.entry-item.is) in
    (next_ticket c.args.log.now.entries i c.loop-entry.checker.taken e c.args.log.now.in_order at c.loop-entry.invariant.counted).0

pub entry-requires-clause-room : goal.entry-requires-clause-room
entry-requires-clause-room c =
    let i = c.loop-entry.entry-index in
    let e = c.entry-item.result in
    let at = subst (λ (z : List Entry). slice_get z i ≡ Some e) c.as_slice-entry-items.ensures (slice_get_read c.as_slice-entry-items.result.now (length c.as_slice-entry-items.result.now) i e refl c.loop-entry-test.true c.entry-item.is) in
    (next_ticket c.args.log.now.entries i c.loop-entry.checker.taken e c.args.log.now.in_order at c.loop-entry.invariant.counted).1

pub returns-in_err-entry-clause-refused : goal.returns-in_err-entry-clause-refused
returns-in_err-entry-clause-refused c =
    let entries = c.args.log.now.entries in
    let i = c.loop-entry.entry-index in
    let item = c.entry-item.result in
    let at = subst (λ (z : List Entry). slice_get z i ≡ Some item) c.as_slice-entry-items.ensures (slice_get_read c.as_slice-entry-items.result.now (length c.as_slice-entry-items.result.now) i item refl c.loop-entry-test.true c.entry-item.is) in
    let e = err_from_is_err_and c.from_residual-in_err-entry.result c.from_residual-in_err-entry.ensures.1 in
    rw (e.1, e.2) (refusal_at c.args.problem.now entries i item c.in_err-entry.field-0.0 at c.loop-entry.invariant.good (c.in_err-entry.ensures.refused (take i entries) c.loop-entry.invariant))

pub loop-entry-preserved : goal.loop-entry-preserved
loop-entry-preserved c =
    let entries = c.args.log.now.entries in
    let i = c.loop-entry.entry-index in
    let item = c.entry-item.result in
    let at = subst (λ (z : List Entry). slice_get z i ≡ Some item) c.as_slice-entry-items.ensures (slice_get_read c.as_slice-entry-items.result.now (length c.as_slice-entry-items.result.now) i item refl c.loop-entry-test.true c.entry-item.is) in
    taken_next c.args.problem.now entries i item c.entry.new.self at (c.in_ok-entry.ensures.ok (take i entries) c.loop-entry.invariant)

pub returns-clause-good : goal.returns-clause-good
returns-clause-good c =
    let p = c.args.problem.now in
    let entries = c.args.log.now.entries in
    let done = subst (λ (z : List Entry). length z ≤ c.loop-entry.entry-index) c.as_slice-entry-items.ensures c.loop-entry-test.false in
    let taken = taken_all p entries c.loop-entry.entry-index c.loop-entry.checker done c.loop-entry.invariant in
    always_ok c.finish.result (IsGood p entries) taken.good

pub returns-clause-ends_empty : goal.returns-clause-ends_empty
returns-clause-ends_empty c =
    let p = c.args.problem.now in
    let entries = c.args.log.now.entries in
    let done = subst (λ (z : List Entry). length z ≤ c.loop-entry.entry-index) c.as_slice-entry-items.ensures c.loop-entry-test.false in
    let taken = taken_all p entries c.loop-entry.entry-index c.loop-entry.checker done c.loop-entry.invariant in
    IfOk-weaker c.finish.result (λ (a : Accepted). (q : Problem) (es : List Entry) → HasTaken q es c.loop-entry.checker → EndsEmpty es × (a.entries ≡ length es)) (λ (a : Accepted). EndsEmpty entries) (λ a h. (h p entries taken).0) c.finish.ensures.ok

pub returns-clause-count : goal.returns-clause-count
returns-clause-count c =
    let p = c.args.problem.now in
    let entries = c.args.log.now.entries in
    let done = subst (λ (z : List Entry). length z ≤ c.loop-entry.entry-index) c.as_slice-entry-items.ensures c.loop-entry-test.false in
    let taken = taken_all p entries c.loop-entry.entry-index c.loop-entry.checker done c.loop-entry.invariant in
    IfOk-weaker c.finish.result (λ (a : Accepted). (q : Problem) (es : List Entry) → HasTaken q es c.loop-entry.checker → EndsEmpty es × (a.entries ≡ length es)) (λ (a : Accepted). a.entries ≡ length entries) (λ a h. (h p entries taken).1) c.finish.ensures.ok

pub returns-clause-refused : goal.returns-clause-refused
returns-clause-refused c =
    let p = c.args.problem.now in
    let entries = c.args.log.now.entries in
    let done = subst (λ (z : List Entry). length z ≤ c.loop-entry.entry-index) c.as_slice-entry-items.ensures c.loop-entry-test.false in
    let taken = taken_all p entries c.loop-entry.entry-index c.loop-entry.checker done c.loop-entry.invariant in
    if_err c.finish.result (λ (r : Refused). (q : Problem) (es : List Entry) → HasTaken q es c.loop-entry.checker → IsRefusal q es r) (IsRefusal p entries) (λ r h. h p entries taken) c.finish.ensures.refused
