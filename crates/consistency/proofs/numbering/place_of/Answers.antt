use Rattle.std.proofs.Common.{sym, ◌∙◌, arith}
use Rattle.consistency.proofs.Placing.{place_step}
use Rattle.consistency.proofs.numbering.place_of.Goals as goal

pub loop-node-preserved : goal.loop-node-preserved
loop-node-preserved c = record {
  counted = let k = c.loop-node.invariant.counted in omega arith;
  left = c.loop-node.invariant.left ∙ place_step c.loop-node.number c.args.nodes.now c.args.event.now c.loop-node.node-index _ c.loop-node-test.true (sym c.is.ensures ∙ c.if-is.false);
}
