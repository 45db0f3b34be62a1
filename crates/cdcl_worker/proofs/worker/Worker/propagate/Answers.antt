use Rattle.std.proofs.Common.{◌≤◌, ◌<◌, ◌++◌, length, refl, ap, sym, ◌∙◌, subst, arith}
use Rattle.trail_state.specs.Trails.{level, true_lits, IsWell}
use Rattle.trail_state.specs.Forcing.{IsConflict}
use Rattle.cdcl_worker.specs.Outcomes.{WorkerView}
use Rattle.cdcl_worker.specs.Searching.{IsThinking, IsSearching}
use Rattle.cdcl_worker.specs.declared.search.Found.TheVariants.{Clause}
use Rattle.cdcl_worker.proofs.Come.{longer_adds, thinking_adds, refuted_come, conflict_come, if_none, none_of_some, if_some, some_of_none}
use Rattle.cdcl_worker.proofs.worker.Worker.propagate.Goals.{in-None, in-Some+else-level-eq0}
use Rattle.cdcl_worker.proofs.worker.Worker.propagate.Goals as goal

pub returns-then-level-eq0-clause-longer : goal.returns-then-level-eq0-clause-longer
returns-then-level-eq0-clause-longer c = subst (λ (w : WorkerView). length w.trail.entries ≤ length c.propagate.new.trail.entries) c.self.view_is (longer_adds c.propagate.ensures.forced)

pub returns-then-level-eq0-clause-found : goal.returns-then-level-eq0-clause-found
returns-then-level-eq0-clause-found c v budget s =
    let p = c.args.problem.now in
    let now = subst (λ (w : WorkerView). IsSearching p budget w v) (sym c.self.view_is) s in
    refuted_come p _ _ c.propagate.new.trail.entries c.in-Some.id.0 c.propagate.ensures.forced (sym c.level.ensures ∙ c.if-level-eq0.true) c.in-Some.ensures.some now.going.thinking

pub returns-clause-longer : goal.returns-clause-longer
returns-clause-longer c = subst (λ (w : WorkerView). length w.trail.entries ≤ length c.propagate.new.trail.entries) c.self.view_is (longer_adds c.propagate.ensures.forced)

pub returns-clause-come : goal.returns-clause-come
returns-clause-come c =
    let p = c.args.problem.now in
    elim c.match-propagate.branch [
      | in-None w ↦ if_none _ w.result-is (record {
        log = ap (λ (x : WorkerView). x.log) c.self.view_is;
        since = ap (λ (x : WorkerView). x.since) c.self.view_is;
        watching = w.in-None.ensures.watching;
        thinking = λ part t. thinking_adds p _ _ part c.propagate.ensures.forced c.propagate.ensures.added refl refl w.in-None.ensures.watching.same_vars (subst (λ (x : WorkerView). IsThinking p x part) (sym c.self.view_is) t);
      })
      | in-Some+else-level-eq0 w ↦ none_of_some _ _ _ w.result-is
    ]

pub returns-clause-found : goal.returns-clause-found
returns-clause-found c =
    let p = c.args.problem.now in
    elim c.match-propagate.branch [
      | in-None w ↦ some_of_none _ _ w.result-is
      | in-Some+else-level-eq0 w ↦ if_some _ _ (Clause w.in-Some.id) w.result-is (λ v budget s.
          let now = subst (λ (x : WorkerView). IsSearching p budget x v) (sym c.self.view_is) s in
          let well = subst (λ (x : WorkerView). IsWell x.trail) (sym c.self.view_is) c.requires.well in
          let above : 0 < level c.propagate.new.trail.entries = (let e = w.level.ensures in let f = w.if-level-eq0.false in omega arith) in (
            conflict_come p budget _ _ v refl refl c.propagate.ensures.forced c.propagate.ensures.added refl refl well above w.in-Some.ensures.below now,
            above,
            subst (λ cs. IsConflict (p.clauses ++ cs) w.in-Some.id.0 (true_lits c.propagate.new.trail.entries)) (sym c.propagate.ensures.added) w.in-Some.ensures.some,
          ))
    ]
