use Rattle.std.proofs.Common.{◌≡◌, ◌<◌, ◌++◌, length, take, drop, sym, ◌∙◌, subst, ap, arith, rules}
use Rattle.std.specs.Prelude.{sum_by, ◌^◌}
use Rattle.clause_exchange.specs.Rule.{new_view}
use Rattle.clause_exchange.specs.Seats.{ExchangeId}
use Rattle.verdict_run.specs.Searches.{HasEnded, AreJobs, HaveWorked, IsSearch, SomeWant, AreReports, logs_of}
use Rattle.verdict_run.proofs.Gathering.{AreGathered, gathered_back, written_back, has_all}
use Rattle.verdict_run.proofs.Places.{not_false}
use Rattle.verdict_run.proofs.Cutting.{safe_log}
use Rattle.verdict_run.proofs.Logs.{once, good, are_of, has_empty}
use Rattle.verdict_run.proofs.Outcomes.{some_model, model_holds, is_unknown}
use Rattle.verdict_run.proofs.decision.decide.Given.{Over}
use Rattle.verdict_run.proofs.decision.decide.Goals as goal
use Rattle.verdict_run.proofs.decision.decide.Goals.{After-search_all, In_ok-seat, After-close-verdict}

pub jobs_of-requires : goal.jobs_of-requires
jobs_of-requires g c = record {
  same = c.in_ok-exchange.ensures.same;
  problem = c.in_ok-exchange.ensures.problem;
  workers = c.in_ok-exchange.ensures.sizes.0;
  some = c.requires.some;
  new = c.in_ok-exchange.ensures.view ∙ ap (new_view c.args.problem.now c.args.workers) (sym c.in_ok-exchange.ensures.sizes.1);
}

pub search_all-requires : goal.search_all-requires
search_all-requires g c = (
  c.type_bounds.sync-R,
  (
    c.type_bounds.sync-G,
    (
      c.in_ok-exchange.ensures.problem,
      (
        c.requires.least,
        (
          c.requires.most,
          (
            subst (λ n. 0 < n) (sym (ap length c.as_mut_slice.ensures.value ∙ c.in_ok-jobs.ensures.all)) c.requires.some,
            subst (AreJobs c.in_ok-exchange.exchange) (sym c.as_mut_slice.ensures.value) c.in_ok-jobs.ensures.jobs,
          ),
        ),
      ),
    ),
  ),
)

-- the workers are those that searched
back : (g : Over) (c : After-search_all g) → take c.in_ok-jobs.jobs.len (c.search_all.new.jobs ++ drop (length c.search_all.new.jobs) c.in_ok-jobs.jobs.items) ≡ c.search_all.new.jobs
back g c = written_back c.in_ok-jobs.jobs.len c.search_all.new.jobs c.in_ok-jobs.jobs.items (c.search_all.auto.jobs ∙ ap length c.as_mut_slice.ensures.value) c.in_ok-jobs.jobs.ok.0

all_of : (g : Over) (c : After-search_all g) → length c.search_all.new.jobs ≡ c.args.workers
all_of g c = c.search_all.auto.jobs ∙ ap length c.as_mut_slice.ensures.value ∙ c.in_ok-jobs.ensures.all

pub gather-requires : goal.gather-requires
gather-requires g c =
    let at = (goal.at.gather-requires g c).After-search_all in
    let worked = subst (HaveWorked c.in_ok-exchange.exchange c.args.budget) (sym (back g at)) c.search_all.ensures in
    record {
      any = subst (λ n. 0 < n) (sym (ap length (back g at) ∙ all_of g at)) c.requires.some;
      same = λ k job is. (worked.each k job is).same;
      one = λ k job is. (worked.each k job is).one;
    }

pub workers-requires : goal.workers-requires
workers-requires g c = record { same = c.in_ok-seat.ensures.same }

all_gathered : (g : Over) (c : In_ok-seat g) → AreGathered c.in_ok-exchange.exchange c.args.budget c.in_ok-seat.seat.view.parts c.in_ok-seat.ends.items
all_gathered g c =
    gathered_back c.in_ok-exchange.exchange c.args.budget c.args.workers c.in_ok-jobs.jobs.len c.search_all.new.jobs c.as_mut_slice.result.now c.in_ok-jobs.jobs.items c.in_ok-seat.seat.view.parts c.in_ok-seat.ends.items
    c.search_all.auto.jobs c.as_mut_slice.ensures.value c.in_ok-jobs.ensures.all c.in_ok-jobs.jobs.ok.0 c.in_ok-exchange.ensures.sizes.0 c.search_all.ensures c.in_ok-seat.ensures.taken

pub close-verdict-requires : goal.close-verdict-requires
close-verdict-requires g c = record {
  same = c.in_ok-seat.ensures.same;
  all = has_all c.in_ok-exchange.exchange c.args.budget c.in_ok-seat.seat.view c.in_ok-seat.ends.items (sym (ap (λ (i : ExchangeId). i.workers) c.in_ok-seat.ensures.same)) (all_gathered g (goal.at.close-verdict-requires g c).In_ok-seat);
}

-- the workers have ended
ended : (g : Over) (c : After-close-verdict g) → HasEnded c.args.problem.now c.args.workers c.args.budget c.in_ok-seat.seat.view c.close-verdict.result.0 c.close-verdict.result.1 c.in_ok-seat.ends.items
ended g c =
    let are =
    gathered_back c.in_ok-exchange.exchange c.args.budget c.args.workers c.in_ok-jobs.jobs.len c.search_all.new.jobs c.as_mut_slice.result.now c.in_ok-jobs.jobs.items c.in_ok-seat.seat.view.parts c.in_ok-seat.ends.items
    c.search_all.auto.jobs c.as_mut_slice.ensures.value c.in_ok-jobs.ensures.all c.in_ok-jobs.jobs.ok.0 c.in_ok-exchange.ensures.sizes.0 c.search_all.ensures c.in_ok-seat.ensures.taken in
    record {
      problem = ap (λ (i : ExchangeId). i.problem) c.in_ok-seat.ensures.same ∙ c.in_ok-exchange.ensures.problem;
      workers_are = ap (λ (i : ExchangeId). i.workers) c.in_ok-seat.ensures.same ∙ c.in_ok-exchange.ensures.sizes.0;
      few = search rules;
      parts = are.parts_long ∙ c.in_ok-exchange.ensures.sizes.0;
      long = are.ends_long ∙ c.in_ok-exchange.ensures.sizes.0;
      numbers = are.numbers;
      searches = λ k part e at at_e. subst (λ q. IsSearch q c.args.budget part e) c.in_ok-exchange.ensures.problem (are.searches k part e at at_e);
      numbered = c.workers.ensures.numbers;
      state = c.close-verdict.ensures.state;
      tickets = c.close-verdict.ensures.tickets;
      unsafe = c.close-verdict.ensures.only_if_offered;
      safe = c.close-verdict.ensures.only_if_empty;
      seen = c.close-verdict.ensures.seen;
      offered = c.close-verdict.ensures.offered;
      reads = c.close-verdict.ensures.reads;
    }

pub whole_log-requires : goal.whole_log-requires
whole_log-requires g c = once _ _ _ _ _ _ _ (ended g (goal.at.whole_log-requires g c).After-close-verdict)

pub cut-requires : goal.cut-requires
cut-requires g c = has_empty _ _ _ _ _ _ _ (ended g (goal.at.cut-requires g c).After-close-verdict) _ c.in_ok-whole_log-in-Some-Safe.ensures (first_of (search (rules, c.in-Some-Safe.is, c.in-Some-Safe.field-0-is), search rules, simp (c.in-Some-Safe.is, c.in-Some-Safe.field-0-is), grind (arith, c.in-Some-Safe.is, c.in-Some-Safe.field-0-is)))

pub unreachable-requires : goal.unreachable-requires
unreachable-requires g c = some_model _ _ _ _ _ _ _ (ended g (goal.at.unreachable-requires g c).After-close-verdict) (first_of (search (rules, c.in-Some-Unsafe.is, c.in-Some-Unsafe.field-0-is), search rules, simp (c.in-Some-Unsafe.is, c.in-Some-Unsafe.field-0-is), grind (arith, c.in-Some-Unsafe.is, c.in-Some-Unsafe.field-0-is))) c.in-None-least_model.ensures

pub reports_of-requires : goal.reports_of-requires
reports_of-requires g c =
    let e = ended g (goal.at.reports_of-requires g c).After-close-verdict in
    let value = c.as_slice-in-None-2.ensures.value in
    record {
      few = subst (λ es. sum_by length (logs_of es) < 2 ^ 32) (sym value) (once _ _ _ _ _ _ _ e).few;
      numbers = omega (arith, ap length value, e.long, c.requires.few);
    }

pub whole_log-requires-in-None-2 : goal.whole_log-requires-in-None-2
whole_log-requires-in-None-2 g c = once _ _ _ _ _ _ _ (ended g (goal.at.whole_log-requires-in-None-2 g c).After-close-verdict)

pub returns-in_ok-whole_log-in-Some-Safe : goal.returns-in_ok-whole_log-in-Some-Safe
returns-in_ok-whole_log-in-Some-Safe g c =
    let e = ended g (goal.at.returns-in_ok-whole_log-in-Some-Safe g c).After-close-verdict in
    let is = c.in_ok-whole_log-in-Some-Safe.ensures in
    safe_log c.args.problem.now c.args.workers c.in_ok-whole_log-in-Some-Safe.field-0.entries c.cut.result.entries (good _ _ _ _ _ _ _ e _ is) (are_of _ _ _ _ _ _ _ e _ is) c.cut.ensures

pub returns-in-Some : goal.returns-in-Some
returns-in-Some g c = model_holds _ _ _ _ _ _ _ (ended g (goal.at.returns-in-Some g c).After-close-verdict) _ c.in-Some.ensures

pub returns-in_ok-log-in-None-2 : goal.returns-in_ok-log-in-None-2
returns-in_ok-log-in-None-2 g c =
    let e = ended g (goal.at.returns-in_ok-log-in-None-2 g c).After-close-verdict in
    let is = c.in_ok-log-in-None-2.ensures in
    let memory : SomeWant c.in_ok-seat.ends.items → ⊥ = λ want. not_false (sym c.if-wants_memory.false ∙ c.wants_memory.ensures.1 (subst SomeWant (sym c.as_slice.ensures.value) want)) in
    let reports = subst (λ es. AreReports es c.in_ok-reports-in-None-2.reports) c.as_slice-in-None-2.ensures.value c.in_ok-reports-in-None-2.ensures in
    (good _ _ _ _ _ _ _ e _ is, is_unknown _ _ _ _ _ _ _ e c.in-None-2.is memory _ _ is reports, are_of _ _ _ _ _ _ _ e _ is)
