use Rattle.trail_state.proofs.Places.{reordered_twice}
use Rattle.trail_state.proofs.heap.sift.Goals as goal

pub returns-clause-items : goal.returns-clause-items
returns-clause-items c = reordered_twice c.sift_up.ensures.items c.sift_down.ensures.items
