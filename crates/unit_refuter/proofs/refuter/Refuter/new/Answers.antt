use Rattle.std.proofs.Common.{refl, ap, sym, subst}
use Rattle.trail_state.specs.Trails.{TrailView}
use Rattle.clause_store.specs.Stores.{IsWatching}
use Rattle.unit_refuter.proofs.Raising.{ready_new}
use Rattle.unit_refuter.proofs.refuter.Refuter.new.Goals as goal

pub returns : goal.returns
returns c =
    let trail = c.in_ok-new-2.ensures in
    ready_new c.args.problem.now _ c.in_ok-new.ensures.added (ap (λ (t : TrailView). t.entries) trail) refl
    (subst (λ (t : TrailView). IsWatching c.args.problem.now c.in_ok-new.field-0 t) (sym trail) c.in_ok-new.ensures.watching)
