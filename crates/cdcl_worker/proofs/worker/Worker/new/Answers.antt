use Rattle.std.proofs.Common.{sym, subst}
use Rattle.trail_state.specs.Trails.{TrailView}
use Rattle.clause_store.specs.Stores.{IsWatching}
use Rattle.cdcl_worker.proofs.worker.Worker.new.Goals as goal

pub returns : goal.returns
returns c = record {
  trail = c.in_ok-trail.ensures;
  watching = subst (λ (t : TrailView). IsWatching c.args.problem.now c.in_ok-store.store t) (sym c.in_ok-trail.ensures) c.in_ok-store.ensures.watching;
  added = c.in_ok-store.ensures.added;
  ordering = c.in_ok-order.ensures.fits;
  asserted = c.in_ok-order.ensures.asserted;
  choice = c.in_ok-choice.ensures;
  log = c.in_ok-log.ensures;
}
