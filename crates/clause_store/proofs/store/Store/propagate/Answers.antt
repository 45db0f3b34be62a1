use Rattle.std.proofs.Common.{◌++◌}
use Rattle.clause_store.proofs.TrailLaws.{undone, well_free}
use Rattle.clause_store.proofs.Turns.{settled_fixpoint}
use Rattle.clause_store.proofs.Visits.{forced_then}
use Rattle.clause_store.proofs.store.Store.propagate.Goals.{in-Some-conflict, in-None}
use Rattle.clause_store.proofs.store.Store.propagate.Goals as goal

pub returns-in-Some-clause-below : goal.returns-in-Some-clause-below
returns-in-Some-clause-below c n u lt un =
    rw (← c.requires.watching.same_vars)
    (undone (c.args.problem.now.clauses ++ c.self.inside.added) c.args.trail.now.vars c.self.inside.links c.examine_fresh-fresh.new.examined c.examine_fresh-fresh.new.trail u n c.examine_fresh-fresh.ensures.watched c.know_well-2.ensures.taken un)

pub returns-clause-forced : goal.returns-clause-forced
returns-clause-forced c =
    rw (← c.self.view_is)
    (forced_then (c.args.problem.now.clauses ++ c.self.inside.added) c.args.trail.now.entries c.examine_fresh-fresh.new.trail.entries c.visit_taken-conflict.new.trail.entries c.examine_fresh-fresh.ensures.forced c.visit_taken-conflict.ensures.forced)

pub returns-clause-none : goal.returns-clause-none
returns-clause-none c =
    elim c.match-conflict.branch [
      | in-Some-conflict w ↦ rw w.result-is tt
      | in-None w ↦
          rw (w.result-is, ← c.self.view_is)
          (settled_fixpoint (c.args.problem.now.clauses ++ c.self.inside.added) _ c.visit_taken-conflict.new.links c.visit_taken-conflict.new.trail w.in-None.ensures.watched (well_free c.visit_taken-conflict.new.trail c.know_well-3.ensures) w.in-None.ensures.taken)
    ]
