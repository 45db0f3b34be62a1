use Rattle.std.proofs.Common.{ap, sym, ◌∙◌, subst}
use Rattle.std.specs.Prelude.{Contains}
use Rattle.std.proofs.lemmas.Result.{on_ok_weaker}
use Rattle.cnf_problem.specs.Chains.{AllFalse}
use Rattle.trail_state.specs.Trails.{true_lits, IsWell}
use Rattle.clause_store.specs.Stores.{clauses_of}
use Rattle.conflict_learn.specs.Learning.{IsLearnt}
use Rattle.cdcl_worker.specs.Outcomes.{WorkerView}
use Rattle.cdcl_worker.specs.Searching.{IsLast}
use Rattle.cdcl_worker.proofs.Learning.{last_same, at_conflict, may_learn}
use Rattle.cdcl_worker.proofs.worker.Worker.learn_from_cycle.Goals as goal

pub learn-requires-clause-refuted : goal.learn-requires-clause-refuted
learn-requires-clause-refuted c =
    let last = c.requires.last in
    let here = subst (λ es. IsLast es last.0) (sym (c.entries.ensures ∙ ap (λ (w : WorkerView). w.log.entries) c.self.view_is)) last.1 in
    let same = last_same c.entries.result.now last.0 c.last_lits.result.now here c.last_lits.ensures in
    let wrong = subst (λ (w : WorkerView). AllFalse (true_lits w.trail.entries) last.0) (sym c.self.view_is) last.3 in
    subst (λ clause. AllFalse (true_lits c.self.inside.trail.entries) clause) same wrong

pub keep_learnt-requires-clause-may : goal.keep_learnt-requires-clause-may
keep_learnt-requires-clause-may c =
    let p = c.args.problem.now in
    let s = c.requires.searching in
    let last = c.requires.last in
    let clause = c.last_lits.result.now in
    let here = subst (λ es. IsLast es last.0) (sym (c.entries.ensures ∙ ap (λ (w : WorkerView). w.log.entries) c.self.view_is)) last.1 in
    let same = last_same c.entries.result.now last.0 clause here c.last_lits.ensures in
    let well = subst (λ (w : WorkerView). IsWell w.trail) c.self.view_is c.know_well.ensures in
    let learnt = subst (λ (w : WorkerView). IsLearnt (clauses_of p w.store) w.trail.entries clause c.in_ok-learnt.learnt.lits c.in_ok-learnt.learnt.back) c.self.view_is c.in_ok-learnt.ensures in
    let listed = subst (λ x. Contains (clauses_of p c.args.self.now.store) x) same last.2 in
    (p, s.0, clause, may_learn p s.0 c.args.self.now c.args.seat.now.view clause _ _ s.2 listed learnt (at_conflict p s.0 c.args.self.now c.args.seat.now.view well s.1))

pub returns-clause-searching : goal.returns-clause-searching
returns-clause-searching c =
    let p = c.args.problem.now in
    let last = c.requires.last in
    let clause = c.last_lits.result.now in
    let here = subst (λ es. IsLast es last.0) (sym (c.entries.ensures ∙ ap (λ (w : WorkerView). w.log.entries) c.self.view_is)) last.1 in
    let same = last_same c.entries.result.now last.0 clause here c.last_lits.ensures in
    let well = subst (λ (w : WorkerView). IsWell w.trail) c.self.view_is c.know_well.ensures in
    let learnt = subst (λ (w : WorkerView). IsLearnt (clauses_of p w.store) w.trail.entries clause c.in_ok-learnt.learnt.lits c.in_ok-learnt.learnt.back) c.self.view_is c.in_ok-learnt.ensures in
    let listed = subst (λ x. Contains (clauses_of p c.args.self.now.store) x) same last.2 in
    on_ok_weaker c.keep_learnt.result
    (λ then budget s room. then p budget clause (may_learn p budget c.args.self.now c.args.seat.now.view clause _ _ room listed learnt (at_conflict p budget c.args.self.now c.args.seat.now.view well s)))
    c.keep_learnt.ensures.searching
