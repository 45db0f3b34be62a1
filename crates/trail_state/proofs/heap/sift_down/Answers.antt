use Rattle.std.proofs.Common.{◌∙◌, arith, refl}
use Rattle.trail_state.proofs.Places.{reordered_twice, reordered_never}
use Rattle.trail_state.proofs.heap.sift_down.Goals as goal

pub loop-i-init : goal.loop-i-init
loop-i-init c = record {
  placed = c.requires.placed;
  moved = reordered_never c.args.items.now;
  long = refl;
  within = c.requires.within;
}

pub loop-i-preserved : goal.loop-i-preserved
loop-i-preserved c = record {
  placed = c.swap_items.ensures.placed;
  moved = reordered_twice c.loop-i.invariant.moved c.swap_items.ensures.items;
  long = c.swap_items.ensures.long ∙ c.loop-i.invariant.long;
  within = let n = c.swap_items.ensures.items.count in omega arith;
}
