use Rattle.decode.proofs.Lining.{line_step}
use Rattle.decode.proofs.relations.order.Goals as goal

pub loop-node-preserved : goal.loop-node-preserved
loop-node-preserved c =
    line_step c.args.truths.now c.args.events.now c.args.places.now c.args.ranks.now c.args.cell c.loop-node.node _ _ c.loop-node.line c.add_write.new.line c.loop-node-test.true c.requires.places c.requires.ranks c.requires.apart
    c.in_ok-add_write.ensures c.loop-node.invariant
