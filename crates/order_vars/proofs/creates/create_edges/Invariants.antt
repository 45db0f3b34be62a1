use Rattle.order_vars.proofs.Creating.{AreFound}
use Rattle.order_vars.proofs.creates.create_edges.Given as goal

abbrev pub invariant-loop-from : goal.invariant-loop-from
invariant-loop-from l = AreFound l.scene.events.now l.edges l.from 0

abbrev pub invariant-loop-to : goal.invariant-loop-to
invariant-loop-to l = AreFound l.scene.events.now l.edges l.from l.to
