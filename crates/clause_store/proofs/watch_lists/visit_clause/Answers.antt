use Rattle.std.proofs.Common.{ap, sym, subst, false, List}
use Rattle.trail_state.specs.Trails.{TrailView, Assigned}
use Rattle.clause_store.specs.Visiting.{IsDone, satisfied, moved, forced, refuted}
use Rattle.clause_store.proofs.watch_lists.visit_clause.Goals as goal

pub returns-in-Satisfied-clause-done : goal.returns-in-Satisfied-clause-done
returns-in-Satisfied-clause-done c = satisfied c.in-Satisfied.ensures

pub returns-in-Moved-clause-done : goal.returns-in-Moved-clause-done
returns-in-Moved-clause-done c = let e = c.in-Moved.ensures in moved c.in-Moved.watch e.0 e.1 e.2

pub returns-in-Unit-clause-done : goal.returns-in-Unit-clause-done
returns-in-Unit-clause-done c =
    let e = c.in-Unit.ensures in
    let P : List Assigned → Type 0 = λ after. IsDone c.args.clause.now c.args.trail.now.entries c.args.id c.args.here c.args.other after c.args.here false in
    subst P (sym (ap (λ (t : TrailView). t.entries) c.assign.ensures)) (forced e.0 e.1)

pub returns-in-False-clause-done : goal.returns-in-False-clause-done
returns-in-False-clause-done c = refuted c.in-False.ensures
