use Rattle.std.proofs.Common.{◌≡◌, ◌<◌, length, arith}
use Rattle.std.proofs.lemmas.Option.{slice_get-get_or}
use Rattle.order_vars.proofs.EventNodes.{has_node}
use Rattle.order_vars.proofs.Creating.{found_more, found_apart, found_next, found_all}
use Rattle.order_vars.proofs.creates.create_edges.Goals as goal
use Rattle.order_vars.proofs.creates.create_edges.Goals.{then-is_creation+in_ok-push, else-is_creation}

pub global-requires-clause-from : goal.global-requires-clause-from
global-requires-clause-from c = has_node c.args.scene.now.events.now c.args.scene.now.nodes.now c.loop-from.from c.requires.nodes (omega arith)

pub global-requires-clause-to : goal.global-requires-clause-to
global-requires-clause-to c = has_node c.args.scene.now.events.now c.args.scene.now.nodes.now c.loop-to.to c.requires.nodes (omega arith)

pub loop-to-preserved : goal.loop-to-preserved
loop-to-preserved c =
    let from : c.loop-from.from < length c.args.scene.now.events.now = omega arith in
    let to : c.loop-to.to < length c.args.scene.now.events.now = omega arith in
    elim c.if-is_creation.branch [
      | then-is_creation+in_ok-push w ↦
          rw (w.edges-is, w.in_ok-push.ensures.ok, w.global.ensures, c.requires.nodes)
          (found_more c.args.scene.now.events.now c.loop-to.edges c.loop-from.from c.loop-to.to _ _
          (slice_get-get_or c.args.scene.now.events.now c.loop-from.from _ from) (slice_get-get_or c.args.scene.now.events.now c.loop-to.to _ to)
          (c.is_creation.ensures.0 w.if-is_creation.true) c.loop-to.invariant)
      | else-is_creation w ↦
          rw w.edges-is
          (found_apart c.args.scene.now.events.now c.loop-to.edges c.loop-from.from c.loop-to.to _ _
          (slice_get-get_or c.args.scene.now.events.now c.loop-from.from _ from) (slice_get-get_or c.args.scene.now.events.now c.loop-to.to _ to)
          (λ creates. let yes = c.is_creation.ensures.1 creates in let no = w.if-is_creation.false in cc) c.loop-to.invariant)
    ]

pub loop-from-preserved : goal.loop-from-preserved
loop-from-preserved c =
    let all : c.loop-to.to ≡ length c.args.scene.now.events.now = omega arith in
    found_next c.args.scene.now.events.now c.loop-to.edges c.loop-from.from (rw all at c.loop-to.invariant)

pub returns : goal.returns
returns c = found_all c.args.scene.now.events.now c.loop-from.edges c.loop-from.from (omega arith) c.loop-from.invariant
