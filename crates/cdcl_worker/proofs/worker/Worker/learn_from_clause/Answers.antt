use Rattle.std.proofs.Common.{◌≡◌, Some, slice_get, sym, subst}
use Rattle.std.proofs.lemmas.Result.{on_ok_weaker}
use Rattle.trail_state.specs.Trails.{true_lits}
use Rattle.trail_state.specs.Forcing.{IsConflict}
use Rattle.clause_store.specs.Stores.{clauses_of}
use Rattle.conflict_learn.specs.Learning.{IsLearnt}
use Rattle.cdcl_worker.specs.Outcomes.{WorkerView}
use Rattle.cdcl_worker.specs.Searching.{HasFound}
use Rattle.cdcl_worker.specs.declared.search.Found.TheVariants.{Clause}
use Rattle.cdcl_worker.proofs.Levels.{once_of, of_last_level}
use Rattle.cdcl_worker.proofs.Learning.{conflict_is, may_learn}
use Rattle.cdcl_worker.proofs.worker.Worker.learn_from_clause.Goals as goal

pub learn-requires-clause-refuted : goal.learn-requires-clause-refuted
learn-requires-clause-refuted c =
    let p = c.args.problem.now in
    let f = subst (λ (w : WorkerView). HasFound p c.requires.found.0 w c.args.seat.now.view (Clause c.args.id)) (sym c.self.view_is) c.requires.found.1 in
    (conflict_is (clauses_of p c.self.inside.store) c.args.id.0 (true_lits c.self.inside.trail.entries) c.clause.result.now f.2 c.clause.ensures).1

pub learn-requires-clause-here : goal.learn-requires-clause-here
learn-requires-clause-here c =
    let p = c.args.problem.now in
    let f = subst (λ (w : WorkerView). HasFound p c.requires.found.0 w c.args.seat.now.view (Clause c.args.id)) (sym c.self.view_is) c.requires.found.1 in
    let is = conflict_is (clauses_of p c.self.inside.store) c.args.id.0 (true_lits c.self.inside.trail.entries) c.clause.result.now f.2 c.clause.ensures in
    of_last_level (clauses_of p c.self.inside.store) c.self.inside.trail.entries c.clause.result.now (once_of c.self.inside.trail c.know_well.ensures) f.1 f.0.fixpoint is.0 is.1

pub keep_learnt-requires-clause-may : goal.keep_learnt-requires-clause-may
keep_learnt-requires-clause-may c =
    let p = c.args.problem.now in
    let clause = c.clause.result.now in
    let f = c.requires.found in
    let named = subst (λ (w : WorkerView). slice_get (clauses_of p w.store) c.args.id.0 ≡ Some clause) c.self.view_is c.clause.ensures in
    let learnt = subst (λ (w : WorkerView). IsLearnt (clauses_of p w.store) w.trail.entries clause c.in_ok-learnt.learnt.lits c.in_ok-learnt.learnt.back) c.self.view_is c.in_ok-learnt.ensures in
    let is = conflict_is _ c.args.id.0 _ clause f.1.2 named in
    (p, f.0, clause, may_learn p f.0 c.args.self.now c.args.seat.now.view clause _ _ f.2 is.0 learnt f.1.0)

pub returns-clause-searching : goal.returns-clause-searching
returns-clause-searching c =
    let p = c.args.problem.now in
    let clause = c.clause.result.now in
    let named = subst (λ (w : WorkerView). slice_get (clauses_of p w.store) c.args.id.0 ≡ Some clause) c.self.view_is c.clause.ensures in
    let learnt = subst (λ (w : WorkerView). IsLearnt (clauses_of p w.store) w.trail.entries clause c.in_ok-learnt.learnt.lits c.in_ok-learnt.learnt.back) c.self.view_is c.in_ok-learnt.ensures in
    on_ok_weaker c.keep_learnt.result
    (λ then budget found room. then p budget clause (may_learn p budget c.args.self.now c.args.seat.now.view clause _ _ room (conflict_is _ c.args.id.0 _ clause found.2 named).0 learnt found.0))
    c.keep_learnt.ensures.searching
