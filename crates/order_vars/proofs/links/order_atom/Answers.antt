use Rattle.order_vars.proofs.EventNodes.{has_node}
use Rattle.order_vars.proofs.links.order_atom.Goals as goal

pub global-requires-clause-from : goal.global-requires-clause-from
global-requires-clause-from c = has_node c.args.scene.now.events.now c.args.scene.now.nodes.now c.args.first c.requires.nodes c.requires.first

pub global-requires-clause-to : goal.global-requires-clause-to
global-requires-clause-to c = has_node c.args.scene.now.events.now c.args.scene.now.nodes.now c.args.second c.requires.nodes c.requires.second
