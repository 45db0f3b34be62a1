use Rattle.std.proofs.Common.{◌≡◌, ◌<◌, ◌≤◌, Option, IfSome, IfNone, length, ap, sym, ◌∙◌, subst, arith}
use Rattle.clause_exchange.specs.Steps.{mine}
use Rattle.cdcl_worker.specs.declared.worker.Outcome.{Outcome}
use Rattle.cdcl_worker.specs.Outcomes.{WorkerView, IsOutcome}
use Rattle.cdcl_worker.specs.Searching.{IsSearching}
use Rattle.cdcl_worker.proofs.Begun.{left_then, ok_weaker, outcome_since, searching_full, nearer}
use Rattle.cdcl_worker.proofs.worker.Worker.search.Goals as goal

pub restart-requires-clause-may : goal.restart-requires-clause-may
restart-requires-clause-may c = (c.args.problem.now, c.args.budget, c.requires.may)

pub returns-in_err-restart-clause-left : goal.returns-in_err-restart-clause-left
returns-in_err-restart-clause-left c = c.restart.ensures.silent.left

pub loop-self-init : goal.loop-self-init
loop-self-init c = record {
  same = c.restart.ensures.same;
  searching = c.in_ok-restart.ensures.searching c.args.problem.now c.args.budget c.requires.may;
  left = c.restart.ensures.silent.left;
}

pub step-requires-clause-same : goal.step-requires-clause-same
step-requires-clause-same c = c.loop-self.invariant.same ∙ c.requires.same

pub step-requires-clause-searching : goal.step-requires-clause-searching
step-requires-clause-searching c = c.loop-self.invariant.searching

pub step-requires-clause-room : goal.step-requires-clause-room
step-requires-clause-room c =
    let long = c.loop-self.invariant.searching.going.logging.booked.log.long in
    let e = ap (λ (w : WorkerView). length w.log.entries) c.self.view_is in
    let l = c.len.ensures in
    let t = c.loop-self-test.true in
    omega arith

pub returns-in_err-outcome-clause-same : goal.returns-in_err-outcome-clause-same
returns-in_err-outcome-clause-same c = c.step.ensures.same ∙ c.loop-self.invariant.same

pub returns-in_err-outcome-clause-left : goal.returns-in_err-outcome-clause-left
returns-in_err-outcome-clause-left c = left_then (mine c.args.seat.now.view) c.loop-self.self c.step.new.self c.loop-self.seat.view c.step.new.seat.view c.loop-self.invariant.left c.step.ensures.left

pub returns-in-Some-clause-same : goal.returns-in-Some-clause-same
returns-in-Some-clause-same c = c.step.ensures.same ∙ c.loop-self.invariant.same

pub returns-in-Some-clause-left : goal.returns-in-Some-clause-left
returns-in-Some-clause-left c = left_then (mine c.args.seat.now.view) c.loop-self.self c.step.new.self c.loop-self.seat.view c.step.new.seat.view c.loop-self.invariant.left c.step.ensures.left

pub returns-in-Some-clause-outcome : goal.returns-in-Some-clause-outcome
returns-in-Some-clause-outcome c = outcome_since c.args.problem.now c.args.budget (mine c.args.seat.now.view) (mine c.loop-self.seat.view) (mine c.step.new.seat.view) c.in-Some.outcome c.loop-self.invariant.left.loads
    (subst (λ (o : Option Outcome). IfSome o (λ (outcome : Outcome). IsOutcome c.args.problem.now c.args.budget (mine c.loop-self.seat.view) (mine c.step.new.seat.view) outcome)) c.in-Some.is c.in_ok-outcome.ensures.some)

pub loop-self-smaller : goal.loop-self-smaller
loop-self-smaller c =
    let more = subst (λ (o : Option Outcome). IfNone o (IsSearching c.args.problem.now c.args.budget c.step.new.self c.step.new.seat.view × (length (mine c.loop-self.seat.view).log < length (mine c.step.new.seat.view).log))) c.in_default.is c.in_ok-outcome.ensures.none in
    let lt : length (mine c.loop-self.seat.view).log < length (mine c.step.new.seat.view).log = more.1 in
    let old : length c.loop-self.self.log.entries ≡ length (mine c.loop-self.seat.view).log = c.loop-self.invariant.searching.going.logging.booked.log.long in
    let new : length c.step.new.self.log.entries ≡ length (mine c.step.new.seat.view).log = more.0.going.logging.booked.log.long in
    nearer c.args.budget (length c.loop-self.self.log.entries) (length c.step.new.self.log.entries) (subst (λ n. n < length c.step.new.self.log.entries) (sym old) (subst (λ n. length (mine c.loop-self.seat.view).log < n) (sym new) lt))
    (subst (λ n. n ≤ c.args.budget) (sym new) more.0.going.within)

pub loop-self-preserved : goal.loop-self-preserved
loop-self-preserved c =
    let more = subst (λ (o : Option Outcome). IfNone o (IsSearching c.args.problem.now c.args.budget c.step.new.self c.step.new.seat.view × (length (mine c.loop-self.seat.view).log < length (mine c.step.new.seat.view).log))) c.in_default.is c.in_ok-outcome.ensures.none in
    record {
      same = c.step.ensures.same ∙ c.loop-self.invariant.same;
      searching = more.0;
      left = left_then (mine c.args.seat.now.view) c.loop-self.self c.step.new.self c.loop-self.seat.view c.step.new.seat.view c.loop-self.invariant.left c.step.ensures.left;
    }

pub finish-requires-clause-same : goal.finish-requires-clause-same
finish-requires-clause-same c = c.loop-self.invariant.same ∙ c.requires.same

pub finish-requires-clause-searching : goal.finish-requires-clause-searching
finish-requires-clause-searching c =
    let long = c.loop-self.invariant.searching.going.logging.booked.log.long in
    let within = c.loop-self.invariant.searching.going.within in
    let e = ap (λ (w : WorkerView). length w.log.entries) c.self.view_is in
    let l = c.len.ensures in
    let t = c.loop-self-test.false in
    let full : c.args.budget ≡ length (mine c.loop-self.seat.view).log = omega arith in
    searching_full c.args.problem.now c.args.budget (length (mine c.loop-self.seat.view).log) c.loop-self.self c.loop-self.seat.view full c.loop-self.invariant.searching

pub returns-clause-same : goal.returns-clause-same
returns-clause-same c = c.finish.ensures.same ∙ c.loop-self.invariant.same

pub returns-clause-left : goal.returns-clause-left
returns-clause-left c = left_then (mine c.args.seat.now.view) c.loop-self.self c.finish.new.self c.loop-self.seat.view c.finish.new.seat.view c.loop-self.invariant.left c.finish.ensures.left

pub returns-clause-outcome : goal.returns-clause-outcome
returns-clause-outcome c =
    let long = c.loop-self.invariant.searching.going.logging.booked.log.long in
    let within = c.loop-self.invariant.searching.going.within in
    let e = ap (λ (w : WorkerView). length w.log.entries) c.self.view_is in
    let l = c.len.ensures in
    let t = c.loop-self-test.false in
    let full : length (mine c.loop-self.seat.view).log ≡ c.args.budget = omega arith in
    ok_weaker (λ (o : Outcome). IsOutcome c.args.problem.now (length (mine c.loop-self.seat.view).log) (mine c.loop-self.seat.view) (mine c.finish.new.seat.view) o) (λ (o : Outcome). IsOutcome c.args.problem.now c.args.budget (mine c.args.seat.now.view) (mine c.finish.new.seat.view) o) c.finish.result
    (λ o h. outcome_since c.args.problem.now c.args.budget (mine c.args.seat.now.view) (mine c.loop-self.seat.view) (mine c.finish.new.seat.view) o c.loop-self.invariant.left.loads
    (subst (λ n. IsOutcome c.args.problem.now n (mine c.loop-self.seat.view) (mine c.finish.new.seat.view) o) full h))
    c.finish.ensures.outcome

pub returns-clause-err : goal.returns-clause-err
returns-clause-err c = c.finish.ensures.err

pub restart-requires-clause-same : goal.restart-requires-clause-same
restart-requires-clause-same c = c.requires.same

pub returns-in_err-restart-clause-same : goal.returns-in_err-restart-clause-same
returns-in_err-restart-clause-same c = c.restart.ensures.same
