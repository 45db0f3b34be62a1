use Rattle.std.proofs.Common.{refl}
use Rattle.trail_state.proofs.Swaps.{reordered_by_swap, placed_swap, at_last}
use Rattle.trail_state.proofs.heap.swap_items.Goals as goal

pub returns-clause-placed : goal.returns-clause-placed
returns-clause-placed c = placed_swap c.args.items.now c.args.i c.args.j _ _ c.requires.first c.requires.second refl refl c.args.places.now c.requires.placed

pub returns-clause-items : goal.returns-clause-items
returns-clause-items c = reordered_by_swap c.args.items.now c.args.i c.args.j _ _ c.requires.first c.requires.second refl refl

pub returns-clause-moved : goal.returns-clause-moved
returns-clause-moved c = at_last c.args.items.now c.args.i c.args.j _ _ c.requires.second
