use Rattle.std.proofs.Common.{arith}
use Rattle.event_graph.specs.Graphs.{bits_by}
use Rattle.event_graph.proofs.Walking.{one_initial, one_value}
use Rattle.event_graph.proofs.walk.initial_writes.Goals as goal

pub loop-cell-preserved : goal.loop-cell-preserved
loop-cell-preserved c = record {
  long = c.loop-cell.invariant.long;
  events = one_initial c.loop-cell.graph.events c.push.new.self c.args.initials.now c.loop-cell.cell c.loop-cell.invariant.events (omega (arith, c.loop-cell.invariant.long, c.loop-cell-test.true)) c.in_ok-push.ensures.ok;
  bits = one_value (bits_by c.args.words.now) c.loop-cell.graph.bits c.push-in-loop-cell.new.self c.args.initials.now c.loop-cell.cell (record { 0 = 0 }) c.bits.result c.loop-cell.invariant.bits (omega (arith, c.loop-cell.invariant.long, c.loop-cell-test.true)) c.bits.ensures c.in_ok-push-2.ensures.ok;
}
