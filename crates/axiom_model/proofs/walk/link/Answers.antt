use Rattle.std.proofs.Common.{◌<◌, ◌+◌, arith, length, ◌∙◌, ap}
use Rattle.std.specs.Prelude.{get_or}
use Rattle.std.proofs.Math.ListN.{length-set}
use Rattle.std.proofs.lemmas.List.{length_push}
use Rattle.std.proofs.lemmas.Option.{slice_get-get_or}
use Rattle.axiom_model.proofs.Walking.{link_earlier, link_left}
use Rattle.axiom_model.proofs.walk.link.Goals as goal

pub loop-place-preserved : goal.loop-place-preserved
loop-place-preserved c =
    let i = c.loop-place.place in
    let inv = c.loop-place.invariant in
    let h : i < length c.args.edges.now = omega arith in
    let edge = get_or c.args.edges.now i (0, 0) in
    let e = slice_get-get_or c.args.edges.now i (0, 0) h in
    let t : edge.1 < length c.loop-place.left = (let b = (c.requires i (0, 0) h).1 in let m = inv.left_len in omega arith) in
    record {
      earlier_len = rw (c.in_ok-push.ensures.ok) (length_push c.loop-place.earlier _ ∙ ap (λ n. n + 1) inv.earlier_len);
      left_len = rw c.set.ensures (length-set c.loop-place.left edge.1 (i + 1) ∙ inv.left_len);
      links = rw (c.in_ok-push.ensures.ok, c.as_slice.ensures) (link_earlier c.args.edges.now c.loop-place.earlier c.loop-place.left i edge.0 edge.1 (get_or c.loop-place.left edge.1 0) e inv.earlier_len inv.links inv.left (slice_get-get_or c.loop-place.left edge.1 0 t));
      left = rw c.set.ensures (link_left c.args.edges.now c.loop-place.left i edge.0 edge.1 e inv.left);
    }
