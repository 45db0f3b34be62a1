use Rattle.std.proofs.Common.{◌≡◌, take}
use Rattle.order_vars.specs.Atoms.{nodes_in}
use Rattle.order_vars.proofs.blocks.nodes.Given as goal

abbrev pub invariant-loop-event : goal.invariant-loop-event
invariant-loop-event l = l.nodes ≡ nodes_in l.events (take l.event-index l.events)
