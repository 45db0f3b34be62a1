use Rattle.std.proofs.Common.{◌≡◌, ◌++◌, ◌+◌, ◌∙◌, ap, None, length, length-append, arith}
use Rattle.consistency.specs.Numbering.{thread_nodes}
use Rattle.consistency.proofs.Placing.{nodes_step, length-thread_nodes}
use Rattle.consistency.proofs.numbering.numbered.Goals as goal

grown : (c : goal.In_ok-append) → c.append.new.self ≡ c.loop-thread.nodes ++ thread_nodes c.thread-item.result.handle (length c.loop-thread.nodes) None 0 c.thread-item.result.actions
grown c = c.in_ok-append.ensures ∙ ap (λ l. c.loop-thread.nodes ++ l) (c.in_ok-thread_nodes.ensures ∙ ap (λ n. thread_nodes c.thread-item.result.handle n None 0 c.thread-item.result.actions) c.len-first.ensures)

pub loop-thread-preserved : goal.loop-thread-preserved
loop-thread-preserved c = record {
  fits =
      let g : length c.append.new.self ≡ length c.loop-thread.nodes + length c.thread-item.result.actions = ap length (grown c) ∙ length-append c.loop-thread.nodes _ ∙ ap (λ k. length c.loop-thread.nodes + k) (length-thread_nodes c.thread-item.result.handle (length c.loop-thread.nodes) None 0 c.thread-item.result.actions) in
      omega arith;
  left = nodes_step _ c.args.threads.now c.loop-thread.thread-index c.thread-item.result c.loop-thread.nodes c.append.new.self c.loop-thread-test.true c.thread-item.is (grown c) c.loop-thread.invariant.left;
}
