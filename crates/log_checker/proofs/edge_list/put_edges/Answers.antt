use Rattle.log_checker.proofs.Pairs.{edge_turn, edges_done}
use Rattle.log_checker.proofs.edge_list.put_edges.Goals as goal

pub loop-edge-preserved : goal.loop-edge-preserved
loop-edge-preserved c = edge_turn c.args.graph c.args.edges.now c.loop-edge.edge-index _ c.loop-edge.pairs.items c.put_edge.new.pairs.items _ c.loop-edge-test.true c.in_ok-put_edge.ensures c.loop-edge.invariant

pub returns : goal.returns
returns c = edges_done c.args.graph c.args.edges.now c.loop-edge.edge-index c.loop-edge.pairs.items _ c.loop-edge-test.false c.loop-edge.invariant
