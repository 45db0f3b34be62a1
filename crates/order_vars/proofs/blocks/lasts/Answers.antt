use Rattle.std.proofs.Common.{arith}
use Rattle.order_vars.proofs.Lasting.{lasts_more}
use Rattle.order_vars.proofs.blocks.lasts.Goals as goal

pub loop-place-preserved : goal.loop-place-preserved
loop-place-preserved c = record {
  counted = c.loop-place.invariant.counted;
  far = rw (c.set.ensures, c.in_ok-push.ensures.ok)
      (lasts_more c.args.events.now c.loop-place.lasts c.loop-place.place _ c.requires.own_or_before (omega arith) c.loop-place.invariant.far);
}
