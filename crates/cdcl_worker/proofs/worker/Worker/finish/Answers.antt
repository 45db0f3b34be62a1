use Rattle.std.proofs.Common.{◌≡◌, ℕ, [], ◌++◌, ◌≤◌, length, ap, sym, ◌∙◌, subst, arith}
use Rattle.cnf_problem.specs.declared.problem.Problem.{Problem}
use Rattle.cnf_problem.specs.Chains.{ReachesConflict}
use Rattle.trail_state.specs.Trails.{level, true_lits}
use Rattle.clause_store.specs.Stores.{IsWatching}
use Rattle.clause_exchange.specs.Steps.{mine}
use Rattle.worker_log.specs.Newness.{knows}
use Rattle.worker_log.specs.Keeping.{IsLogging, IsHeeding}
use Rattle.cdcl_worker.specs.declared.worker.Outcome.{Outcome}
use Rattle.cdcl_worker.specs.Outcomes.{WorkerView, IsOutcome}
use Rattle.cdcl_worker.specs.Searching.{IsThinking, IsUnderWay}
use Rattle.cdcl_worker.proofs.Come.{level_adds, refuted_come}
use Rattle.cdcl_worker.proofs.Begun.{searching_may, left_then, ok_weaker, outcome_since, has_spent}
use Rattle.cdcl_worker.proofs.worker.Worker.finish.Goals as goal

pub restart-requires-clause-may : goal.restart-requires-clause-may
restart-requires-clause-may c =
    let n = length (mine c.args.seat.now.view).log in
    (c.args.problem.now, n, searching_may c.args.problem.now n c.args.self.now c.args.seat.now.view c.requires.searching)

pub returns-in_err-restart-clause-left : goal.returns-in_err-restart-clause-left
returns-in_err-restart-clause-left c = c.restart.ensures.silent.left

pub propagate-requires : goal.propagate-requires
propagate-requires c =
    let p = c.args.problem.now in
    let n = length (mine c.args.seat.now.view).log in
    let s = c.in_ok-restart.ensures.searching p n (searching_may p n c.args.self.now c.args.seat.now.view c.requires.searching) in
    record { watching = subst (λ (w : WorkerView). IsWatching p w.store w.trail) (sym c.self.view_is) s.watching }

pub refute-requires-clause-logging : goal.refute-requires-clause-logging
refute-requires-clause-logging c = subst (λ (w : WorkerView). IsLogging w.log c.restart.new.seat.view) (sym c.self.view_is) c.restart.ensures.silent.left.logging

pub refute-requires-clause-heeding : goal.refute-requires-clause-heeding
refute-requires-clause-heeding c =
    let p = c.args.problem.now in
    let n = length (mine c.args.seat.now.view).log in
    let s = c.in_ok-restart.ensures.searching p n (searching_may p n c.args.self.now c.args.seat.now.view c.requires.searching) in
    subst (λ (w : WorkerView). IsHeeding (mine c.restart.new.seat.view) w.since) (sym c.self.view_is) s.going.heeding

pub refute-requires-clause-recent : goal.refute-requires-clause-recent
refute-requires-clause-recent c =
    let since = c.in_ok-restart.ensures.ground.1 in
    let e = ap (λ (w : WorkerView). w.since) c.self.view_is in
    omega arith

pub refute-requires-clause-room : goal.refute-requires-clause-room
refute-requires-clause-room c =
    let p = c.args.problem.now in
    let n = length (mine c.args.seat.now.view).log in
    let s = c.in_ok-restart.ensures.searching p n (searching_may p n c.args.self.now c.args.seat.now.view c.requires.searching) in
    let within : length (mine c.restart.new.seat.view).log ≤ n = s.going.within in
    let few : n ≤ 1000000 = s.going.few in
    omega arith

pub refute-requires-clause-silent : goal.refute-requires-clause-silent
refute-requires-clause-silent c = c.restart.ensures.silent.offers

pub refute-requires-clause-refuted : goal.refute-requires-clause-refuted
refute-requires-clause-refuted c =
    let p = c.args.problem.now in
    let n = length (mine c.args.seat.now.view).log in
    let x = c.restart.new.seat.view in
    let s = c.in_ok-restart.ensures.searching p n (searching_may p n c.args.self.now c.args.seat.now.view c.requires.searching) in
    let thinking = subst (λ (w : WorkerView). IsThinking p w (mine x)) (sym c.self.view_is) s.going.thinking in
    let ground : level c.propagate.new.trail.entries ≡ 0 = level_adds c.propagate.ensures.forced ∙ (ap (λ (w : WorkerView). level w.trail.entries) c.self.view_is ∙ c.in_ok-restart.ensures.ground.0) in
    subst (λ (q : Problem). ReachesConflict (q.clauses ++ knows (mine x)) []) (sym s.going.problem)
    (refuted_come p _ (mine x) c.propagate.new.trail.entries _ c.propagate.ensures.forced ground c.in-Some.ensures.some thinking)

pub returns-in-Some-clause-left : goal.returns-in-Some-clause-left
returns-in-Some-clause-left c = left_then (mine c.args.seat.now.view) c.restart.new.self c.refute.new.self c.restart.new.seat.view c.refute.new.seat.view c.restart.ensures.silent.left c.refute.ensures.left

pub returns-in-Some-clause-outcome : goal.returns-in-Some-clause-outcome
returns-in-Some-clause-outcome c =
    let p = c.args.problem.now in
    let n = length (mine c.args.seat.now.view).log in
    let x = c.restart.new.seat.view in
    let y = c.refute.new.seat.view in
    let s = c.in_ok-restart.ensures.searching p n (searching_may p n c.args.self.now c.args.seat.now.view c.requires.searching) in
    ok_weaker (λ (o : Outcome). (budget : ℕ) → IsOutcome x.problem budget (mine x) (mine y) o) (λ (o : Outcome). IsOutcome p n (mine c.args.seat.now.view) (mine y) o) c.refute.result
    (λ o h. outcome_since p n (mine c.args.seat.now.view) (mine x) (mine y) o c.restart.ensures.silent.left.loads (subst (λ (q : Problem). IsOutcome q n (mine x) (mine y) o) s.going.problem (h n)))
    c.refute.ensures.outcome

pub returns-in-Some-clause-err : goal.returns-in-Some-clause-err
returns-in-Some-clause-err c = c.refute.ensures.err

pub returns-in-None-clause-left : goal.returns-in-None-clause-left
returns-in-None-clause-left c =
    let left = c.restart.ensures.silent.left in
    record { logging = subst (λ (w : WorkerView). IsLogging w.log c.restart.new.seat.view) (sym c.self.view_is) left.logging; number = left.number; loads = left.loads }

pub returns-in-None-clause-outcome : goal.returns-in-None-clause-outcome
returns-in-None-clause-outcome c =
    let p = c.args.problem.now in
    let n = length (mine c.args.seat.now.view).log in
    let x = c.restart.new.seat.view in
    let s = c.in_ok-restart.ensures.searching p n (searching_may p n c.args.self.now c.args.seat.now.view c.requires.searching) in
    let going = subst (λ (w : WorkerView). IsUnderWay p n w x) (sym c.self.view_is) s.going in
    let since = ap (λ (w : WorkerView). w.since) c.self.view_is ∙ c.in_ok-restart.ensures.ground.1 in
    (has_spent p n _ x (true_lits c.propagate.new.trail.entries) going (ap length c.restart.ensures.log) since c.in-None.ensures.none, c.restart.ensures.silent.offers)
