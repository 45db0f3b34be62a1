use Rattle.std.proofs.Common.{ℕ, List, get_or, ap, ◌∙◌, arith}
use Rattle.order_vars.proofs.Lasting.{nodes_more_by}
use Rattle.order_vars.proofs.blocks.nodes.Goals as goal

pub loop-event-preserved : goal.loop-event-preserved
loop-event-preserved c =
    rw c.in_ok-push.ensures.ok
    (nodes_more_by c.args.events.now c.loop-event.nodes c.as_slice-ends.result.now c.loop-event.event-index _ c.requires.own_or_before (omega arith) c.loop-event.invariant
    (λ b h. ap (λ (xs : List ℕ). get_or xs b 0) c.as_slice-ends.ensures ∙ c.in_ok-ends.ensures.last b h))
