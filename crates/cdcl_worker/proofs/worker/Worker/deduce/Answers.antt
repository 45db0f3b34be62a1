use Rattle.std.proofs.Common.{[], ◌++◌, ◌+◌, List, sym, subst, arith}
use Rattle.dg_base.specs.declared.Lit.{Lit}
use Rattle.cnf_problem.specs.declared.problem.Problem.{Problem}
use Rattle.cnf_problem.specs.Chains.{ReachesConflict}
use Rattle.clause_exchange.specs.Steps.{mine}
use Rattle.worker_log.specs.Newness.{knows}
use Rattle.worker_log.specs.Logs.{LogView}
use Rattle.worker_log.specs.Keeping.{IsLogging, IsHeeding}
use Rattle.cdcl_worker.specs.declared.search.Found.{Found}
use Rattle.cdcl_worker.specs.declared.search.Found.TheVariants.{Conflict, Implied}
use Rattle.cdcl_worker.specs.Outcomes.{IsOutcome}
use Rattle.cdcl_worker.specs.Searching.{HasFound, IsSearching}
use Rattle.cdcl_worker.proofs.Begun.{left_logging}
use Rattle.cdcl_worker.proofs.worker.Worker.deduce.Goals as goal

pub returns-in_err-advance-clause-left : goal.returns-in_err-advance-clause-left
returns-in_err-advance-clause-left c = left_logging c.advance.new.self c.args.seat.now.view (subst (λ (l : LogView). IsLogging l c.args.seat.now.view) (sym c.advance.ensures.same.0) c.requires.searching.going.logging)

pub refute-requires-clause-logging : goal.refute-requires-clause-logging
refute-requires-clause-logging c = subst (λ (l : LogView). IsLogging l c.args.seat.now.view) (sym c.advance.ensures.same.0) c.requires.searching.going.logging

pub refute-requires-clause-heeding : goal.refute-requires-clause-heeding
refute-requires-clause-heeding c = subst (λ n. IsHeeding (mine c.args.seat.now.view) n) (sym c.advance.ensures.same.1) c.requires.searching.going.heeding

pub refute-requires-clause-recent : goal.refute-requires-clause-recent
refute-requires-clause-recent c =
    let lt = c.requires.recent in
    let e = c.advance.ensures.same.1 in
    omega arith

pub refute-requires-clause-room : goal.refute-requires-clause-room
refute-requires-clause-room c = (let a = c.requires.searching.going.within in let b = c.requires.searching.going.few in omega arith)

pub refute-requires-clause-silent : goal.refute-requires-clause-silent
refute-requires-clause-silent c = c.requires.searching.going.silent

pub refute-requires-clause-refuted : goal.refute-requires-clause-refuted
refute-requires-clause-refuted c =
    let p = c.args.problem.now in
    let v = c.args.seat.now.view in
    subst (λ (q : Problem). ReachesConflict (q.clauses ++ knows (mine v)) []) (sym c.requires.searching.going.problem)
    (subst (λ (f : Found). HasFound p c.args.budget c.advance.new.self v f) c.in-Refuted.is (c.in_ok-advance.ensures.found v c.requires.searching))

pub returns-in_err-refute-in-Refuted-clause-left : goal.returns-in_err-refute-in-Refuted-clause-left
returns-in_err-refute-in-Refuted-clause-left c = c.refute.ensures.left

pub returns-in_ok-refute-in-Refuted-clause-left : goal.returns-in_ok-refute-in-Refuted-clause-left
returns-in_ok-refute-in-Refuted-clause-left c = c.refute.ensures.left

pub returns-in_ok-refute-in-Refuted-clause-some : goal.returns-in_ok-refute-in-Refuted-clause-some
returns-in_ok-refute-in-Refuted-clause-some c =
    let p = c.args.problem.now in
    let v = c.args.seat.now.view in
    subst (λ (q : Problem). IsOutcome q c.args.budget (mine v) (mine c.refute.new.seat.view) c.in_ok-refute-in-Refuted.field-0) c.requires.searching.going.problem (c.in_ok-refute-in-Refuted.ensures.outcome c.args.budget)

pub learn_from_clause-requires-clause-found : goal.learn_from_clause-requires-clause-found
learn_from_clause-requires-clause-found c =
    let p = c.args.problem.now in
    let v = c.args.seat.now.view in
    (c.args.budget, subst (λ (f : Found). HasFound p c.args.budget c.advance.new.self v f) c.in-Clause.is (c.in_ok-advance.ensures.found v c.requires.searching), c.requires.room)

pub learn_from_clause-requires-clause-recent : goal.learn_from_clause-requires-clause-recent
learn_from_clause-requires-clause-recent c =
    let lt = c.requires.recent in
    let e = c.advance.ensures.same.1 in
    omega arith

pub returns-in_err-learn_from_clause-in-Clause-clause-left : goal.returns-in_err-learn_from_clause-in-Clause-clause-left
returns-in_err-learn_from_clause-in-Clause-clause-left c = c.learn_from_clause.ensures.silent.left

pub returns-in_ok-learn_from_clause-in-Clause-clause-left : goal.returns-in_ok-learn_from_clause-in-Clause-clause-left
returns-in_ok-learn_from_clause-in-Clause-clause-left c = c.learn_from_clause.ensures.silent.left

pub returns-in_ok-learn_from_clause-in-Clause-clause-none : goal.returns-in_ok-learn_from_clause-in-Clause-clause-none
returns-in_ok-learn_from_clause-in-Clause-clause-none c =
    let p = c.args.problem.now in
    let v = c.args.seat.now.view in
    (c.in_ok-learn_from_clause-in-Clause.ensures.searching c.args.budget (subst (λ (f : Found). HasFound p c.args.budget c.advance.new.self v f) c.in-Clause.is (c.in_ok-advance.ensures.found v c.requires.searching)) c.requires.room, (let e = c.in_ok-learn_from_clause-in-Clause.ensures.longer in omega arith))

pub take_conflict-requires-clause-found : goal.take_conflict-requires-clause-found
take_conflict-requires-clause-found c =
    let p = c.args.problem.now in
    let v = c.args.seat.now.view in
    subst (λ (ls : List Lit). HasFound p c.args.budget c.advance.new.self v (Conflict ls)) (sym c.as_slice.ensures) (subst (λ (f : Found). HasFound p c.args.budget c.advance.new.self v f) c.in-Conflict.is (c.in_ok-advance.ensures.found v c.requires.searching))

pub take_conflict-requires-clause-recent : goal.take_conflict-requires-clause-recent
take_conflict-requires-clause-recent c =
    let lt = c.requires.recent in
    let e = c.advance.ensures.same.1 in
    omega arith

pub returns-in-Conflict-clause-left : goal.returns-in-Conflict-clause-left
returns-in-Conflict-clause-left c = c.take_conflict.ensures.left

pub returns-in-Conflict-clause-none : goal.returns-in-Conflict-clause-none
returns-in-Conflict-clause-none c = c.take_conflict.ensures.none

pub returns-in-Conflict-clause-some : goal.returns-in-Conflict-clause-some
returns-in-Conflict-clause-some c = c.take_conflict.ensures.some

pub returns-in-Conflict-clause-err : goal.returns-in-Conflict-clause-err
returns-in-Conflict-clause-err c = c.take_conflict.ensures.err

pub take_implied-requires-clause-found : goal.take_implied-requires-clause-found
take_implied-requires-clause-found c =
    let p = c.args.problem.now in
    let v = c.args.seat.now.view in (
      c.args.budget,
      subst (λ (q : Problem). HasFound q c.args.budget c.advance.new.self v (Implied c.as_slice-in-Implied.result.now)) (sym c.requires.searching.going.problem)
          (subst (λ (ls : List Lit). HasFound p c.args.budget c.advance.new.self v (Implied ls)) (sym c.as_slice-in-Implied.ensures) (subst (λ (f : Found). HasFound p c.args.budget c.advance.new.self v f) c.in-Implied.is (c.in_ok-advance.ensures.found v c.requires.searching))),
      c.requires.room,
    )

pub take_implied-requires-clause-recent : goal.take_implied-requires-clause-recent
take_implied-requires-clause-recent c =
    let lt = c.requires.recent in
    let e = c.advance.ensures.same.1 in
    omega arith

pub returns-in_err-take_implied-in-Implied-clause-left : goal.returns-in_err-take_implied-in-Implied-clause-left
returns-in_err-take_implied-in-Implied-clause-left c = c.take_implied.ensures.silent.left

pub returns-in_ok-take_implied-in-Implied-clause-left : goal.returns-in_ok-take_implied-in-Implied-clause-left
returns-in_ok-take_implied-in-Implied-clause-left c = c.take_implied.ensures.silent.left

pub returns-in_ok-take_implied-in-Implied-clause-none : goal.returns-in_ok-take_implied-in-Implied-clause-none
returns-in_ok-take_implied-in-Implied-clause-none c =
    let p = c.args.problem.now in
    let v = c.args.seat.now.view in
    let h = subst (λ (q : Problem). HasFound q c.args.budget c.advance.new.self v (Implied c.as_slice-in-Implied.result.now)) (sym c.requires.searching.going.problem)
    (subst (λ (ls : List Lit). HasFound p c.args.budget c.advance.new.self v (Implied ls)) (sym c.as_slice-in-Implied.ensures) (subst (λ (f : Found). HasFound p c.args.budget c.advance.new.self v f) c.in-Implied.is (c.in_ok-advance.ensures.found v c.requires.searching))) in
    (subst (λ (q : Problem). IsSearching q c.args.budget c.take_implied.new.self c.take_implied.new.seat.view) c.requires.searching.going.problem (c.in_ok-take_implied-in-Implied.ensures.searching c.args.budget h c.requires.room), (let e = c.in_ok-take_implied-in-Implied.ensures.longer in omega arith))

pub offer_model-requires-clause-problem : goal.offer_model-requires-clause-problem
offer_model-requires-clause-problem c = c.requires.searching.going.problem

pub offer_model-requires-clause-model : goal.offer_model-requires-clause-model
offer_model-requires-clause-model c =
    let p = c.args.problem.now in
    let v = c.args.seat.now.view in
    (c.args.budget, subst (λ (f : Found). HasFound p c.args.budget c.advance.new.self v f) c.in-Model.is (c.in_ok-advance.ensures.found v c.requires.searching))

pub returns-in_err-offer_model-in-Model-clause-left : goal.returns-in_err-offer_model-in-Model-clause-left
returns-in_err-offer_model-in-Model-clause-left c = c.offer_model.ensures.left

pub returns-in_ok-offer_model-in-Model-clause-left : goal.returns-in_ok-offer_model-in-Model-clause-left
returns-in_ok-offer_model-in-Model-clause-left c = c.offer_model.ensures.left

pub returns-in_ok-offer_model-in-Model-clause-some : goal.returns-in_ok-offer_model-in-Model-clause-some
returns-in_ok-offer_model-in-Model-clause-some c = c.in_ok-offer_model-in-Model.ensures.outcome c.args.budget
