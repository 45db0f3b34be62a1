use Rattle.std.proofs.Common.{◌≡◌, ◌<◌, length, ap, sym, ◌∙◌, subst}
use Rattle.std.specs.Prelude.{IfOk, IfNone}
use Rattle.clause_exchange.specs.declared.rule.View.{View}
use Rattle.clause_exchange.specs.Steps.{mine}
use Rattle.cdcl_worker.specs.declared.worker.Outcome.{Outcome}
use Rattle.cdcl_worker.specs.Outcomes.{IsOutcome}
use Rattle.cdcl_worker.specs.Searching.{IsSearching, IsLeft}
use Rattle.cdcl_worker.proofs.Begun.{searching_seen, left_seen, followed, left_then, some_weaker, outcome_since}
use Rattle.cdcl_worker.proofs.worker.Worker.step.Goals as goal

pub verdict-requires-clause-one : goal.verdict-requires-clause-one
verdict-requires-clause-one c = c.requires.searching.going.logging.booked.one

pub returns-in-Some-clause-left : goal.returns-in-Some-clause-left
returns-in-Some-clause-left c = left_seen c.args.problem.now c.args.budget c.args.self.now c.args.seat.now.view c.verdict.new.seat.view c.verdict.result c.verdict.ensures.seen c.requires.searching

pub returns-in-Some-clause-some : goal.returns-in-Some-clause-some
returns-in-Some-clause-some c = followed c.args.problem.now c.args.budget c.args.seat.now.view c.verdict.new.seat.view c.in-Some.verdict c.in-Some.ensures.seen c.requires.searching.going.silent

pub look-requires-clause-searching : goal.look-requires-clause-searching
look-requires-clause-searching c = (
  c.args.problem.now,
  c.args.budget,
  subst (λ (x : View). IsSearching c.args.problem.now c.args.budget c.args.self.now x) (sym c.verdict.ensures.seen)
      (searching_seen c.args.problem.now c.args.budget c.args.self.now c.args.seat.now.view c.verdict.result c.requires.searching),
)

pub returns-in_err-look-clause-left : goal.returns-in_err-look-clause-left
returns-in_err-look-clause-left c =
    left_then (mine c.args.seat.now.view) c.args.self.now c.look.new.self c.verdict.new.seat.view c.look.new.seat.view
    (left_seen c.args.problem.now c.args.budget c.args.self.now c.args.seat.now.view c.verdict.new.seat.view c.verdict.result c.verdict.ensures.seen c.requires.searching)
    c.look.ensures.silent.left

pub deduce-requires-clause-searching : goal.deduce-requires-clause-searching
deduce-requires-clause-searching c =
    c.in_ok-look.ensures.searching c.args.problem.now c.args.budget (subst (λ (x : View). IsSearching c.args.problem.now c.args.budget c.args.self.now x) (sym c.verdict.ensures.seen)
    (searching_seen c.args.problem.now c.args.budget c.args.self.now c.args.seat.now.view c.verdict.result c.requires.searching))

pub deduce-requires-clause-room : goal.deduce-requires-clause-room
deduce-requires-clause-room c =
    let a : length (mine c.look.new.seat.view).log ≡ length (mine c.verdict.new.seat.view).log = ap length c.look.ensures.log in
    let b : length (mine c.verdict.new.seat.view).log ≡ length (mine c.args.seat.now.view).log = ap (λ (x : View). length (mine x).log) c.verdict.ensures.seen in
    let room : length (mine c.args.seat.now.view).log < c.args.budget = c.requires.room in
    subst (λ n. n < c.args.budget) (sym (a ∙ b)) room

pub deduce-requires-clause-recent : goal.deduce-requires-clause-recent
deduce-requires-clause-recent c = c.in_ok-look.ensures.recent

pub returns-clause-left : goal.returns-clause-left
returns-clause-left c =
    left_then (mine c.args.seat.now.view) c.look.new.self c.deduce.new.self c.look.new.seat.view c.deduce.new.seat.view
    (left_then (mine c.args.seat.now.view) c.args.self.now c.look.new.self c.verdict.new.seat.view c.look.new.seat.view
    (left_seen c.args.problem.now c.args.budget c.args.self.now c.args.seat.now.view c.verdict.new.seat.view c.verdict.result c.verdict.ensures.seen c.requires.searching)
    c.look.ensures.silent.left)
    c.deduce.ensures.left

pub returns-clause-none : goal.returns-clause-none
returns-clause-none c =
    let a : length (mine c.look.new.seat.view).log ≡ length (mine c.verdict.new.seat.view).log = ap length c.look.ensures.log in
    let b : length (mine c.verdict.new.seat.view).log ≡ length (mine c.args.seat.now.view).log = ap (λ (x : View). length (mine x).log) c.verdict.ensures.seen in
    subst (λ n. IfOk c.deduce.result (λ o. IfNone o (IsSearching c.args.problem.now c.args.budget c.deduce.new.self c.deduce.new.seat.view × (n < length (mine c.deduce.new.seat.view).log)))) (a ∙ b) c.deduce.ensures.none

pub returns-clause-some : goal.returns-clause-some
returns-clause-some c =
    let first : IsLeft (mine c.args.seat.now.view) c.look.new.self c.look.new.seat.view = (
    left_then (mine c.args.seat.now.view) c.args.self.now c.look.new.self c.verdict.new.seat.view c.look.new.seat.view
    (left_seen c.args.problem.now c.args.budget c.args.self.now c.args.seat.now.view c.verdict.new.seat.view c.verdict.result c.verdict.ensures.seen c.requires.searching)
    c.look.ensures.silent.left) in
    some_weaker (λ (o : Outcome). IsOutcome c.args.problem.now c.args.budget (mine c.look.new.seat.view) (mine c.deduce.new.seat.view) o) (λ (o : Outcome). IsOutcome c.args.problem.now c.args.budget (mine c.args.seat.now.view) (mine c.deduce.new.seat.view) o) c.deduce.result
    (λ o h. outcome_since c.args.problem.now c.args.budget (mine c.args.seat.now.view) (mine c.look.new.seat.view) (mine c.deduce.new.seat.view) o first.loads h) c.deduce.ensures.some

pub returns-clause-err : goal.returns-clause-err
returns-clause-err c = c.deduce.ensures.err

pub verdict-requires-clause-same : goal.verdict-requires-clause-same
verdict-requires-clause-same c = c.requires.same

pub returns-in-Some-clause-same : goal.returns-in-Some-clause-same
returns-in-Some-clause-same c = c.verdict.ensures.same

pub look-requires-clause-same : goal.look-requires-clause-same
look-requires-clause-same c = c.verdict.ensures.same ∙ c.requires.same

pub returns-in_err-look-clause-same : goal.returns-in_err-look-clause-same
returns-in_err-look-clause-same c = c.look.ensures.same ∙ c.verdict.ensures.same

pub deduce-requires-clause-same : goal.deduce-requires-clause-same
deduce-requires-clause-same c = c.look.ensures.same ∙ (c.verdict.ensures.same ∙ c.requires.same)

pub returns-clause-same : goal.returns-clause-same
returns-clause-same c = c.deduce.ensures.same ∙ (c.look.ensures.same ∙ c.verdict.ensures.same)
