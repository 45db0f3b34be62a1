use Rattle.std.proofs.Common.{sym, ◌∙◌}
use Rattle.consistency.proofs.Placing.{cell_in_step}
use Rattle.consistency.proofs.links.cell_in.Goals as goal

pub loop-node-preserved : goal.loop-node-preserved
loop-node-preserved c =
    c.loop-node.invariant ∙ cell_in_step c.args.nodes.now c.args.event.now c.loop-node.node-index _ c.loop-node-test.true (sym c.is.ensures ∙ c.if-is.false)
