use Rattle.std.proofs.Common.{◌≡◌, ◌<◌, suc, ◌-◌, [], ◌∷◌, length, length-append, refl, ap, sym, ◌∙◌, subst, arith}
use Rattle.clause_exchange.specs.Seats.{SeatState, exchange_of}
use Rattle.verdict_run.specs.Searches.{AreJobs}
use Rattle.verdict_run.proofs.Seats.{IsRest, cuts_last, rest_of, last_of, job_made, jobs_more, no_jobs, first_rest, rest_some}
use Rattle.verdict_run.proofs.jobs.jobs_of.Goals as goal

pub split-last-requires-clause-within : goal.split-last-requires-clause-within
split-last-requires-clause-within c =
    let rest = c.loop-made.invariant.rest in
    cuts_last c.args.exchange.now c.loop-made.seat.view _ rest.0 (omega (arith, rest.1)) rest.2 (omega (arith, rest.1, c.loop-made-test.true))

pub loop-made-init : goal.loop-made-init
loop-made-init c = record {
  made = ap length c.new-jobs.ensures.items;
  jobs = subst (AreJobs c.args.exchange.now) (sym c.new-jobs.ensures.items) (no_jobs c.args.exchange.now);
  same = c.requires.same;
  rest = (c.args.workers - 1, omega (arith, c.requires.some), first_rest c.args.exchange.now c.args.problem.now c.args.workers (c.args.workers - 1) c.args.seat.view c.requires.problem c.requires.workers c.requires.new (omega (arith, c.requires.some)));
}

pub loop-made-preserved : goal.loop-made-preserved
loop-made-preserved c =
    let id = c.args.exchange.now in
    let rest = c.loop-made.invariant.rest in
    let cut : c.args.workers - 1 - c.loop-made.made ≡ rest.0 = omega (arith, rest.1) in
    let some : 0 < rest.0 = omega (arith, rest.1, c.loop-made-test.true) in
    let job = c.in_ok-job_of.field-0 in
    let view = ap (λ (s : SeatState). s.view) c.in_ok-job_of.ensures.seat ∙ last_of id c.loop-made.seat.view c.split-last.result.view _ rest.0 cut rest.2 c.split-last.ensures.right in
    let same = ap exchange_of c.in_ok-job_of.ensures.seat ∙ c.split-last.ensures.same.1 ∙ c.loop-made.invariant.same in
    let made = job_made id c.args.problem.now c.args.workers (c.args.workers - 1 - c.loop-made.made) job c.requires.problem c.requires.workers same view c.in_ok-job_of.ensures.fresh in
    let left = rest_some id c.split-last.new.seat.view rest.0 rest.0 (rest_of id c.loop-made.seat.view c.split-last.new.seat.view _ rest.0 cut rest.2 c.split-last.ensures.left) some refl in
    record {
      made = ap length c.in_ok-push.ensures.items ∙ length-append c.loop-made.jobs.items (job ∷ []) ∙ omega (arith, c.loop-made.invariant.made);
      jobs = subst (AreJobs id) (sym c.in_ok-push.ensures.items) (jobs_more id c.loop-made.jobs.items job c.loop-made.invariant.jobs made.0 (omega (arith, made.1, cut, c.loop-made.invariant.made, rest.1, c.requires.workers)));
      same = c.split-last.ensures.same.0 ∙ c.loop-made.invariant.same;
      rest = (left.0, omega (arith, left.1, rest.1), left.2);
    }

pub returns : goal.returns
returns c =
    let id = c.args.exchange.now in
    let rest = c.loop-made.invariant.rest in
    let job = c.in_ok-job_of-2.field-0 in
    let none : rest.0 ≡ 0 = omega (arith, rest.1, c.loop-made-test.false, c.requires.some) in
    let one = subst (λ n. IsRest id c.loop-made.seat.view (suc n)) none rest.2 in
    let view = ap (λ (s : SeatState). s.view) c.in_ok-job_of-2.ensures.seat ∙ one.blank in
    let made = job_made id c.args.problem.now c.args.workers 0 job c.requires.problem c.requires.workers (ap exchange_of c.in_ok-job_of-2.ensures.seat ∙ c.loop-made.invariant.same) view c.in_ok-job_of-2.ensures.fresh in
    record {
      jobs = subst (AreJobs id) (sym c.in_ok-push-2.ensures.items) (jobs_more id c.loop-made.jobs.items job c.loop-made.invariant.jobs made.0 (omega (arith, made.1, none, c.loop-made.invariant.made, rest.1, c.requires.workers)));
      all = ap length c.in_ok-push-2.ensures.items ∙ length-append c.loop-made.jobs.items (job ∷ []) ∙ omega (arith, c.loop-made.invariant.made, none, rest.1);
    }
