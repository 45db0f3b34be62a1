use Rattle.std.proofs.Common.{◌≡◌, ℕ, subst, arith}
use Rattle.trail_state.proofs.Places.{full_filled, placed_filled, IsFilled}
use Rattle.trail_state.proofs.heap.VarHeap.new.Goals as goal

pub invariant_of-result : goal.invariant_of-result
invariant_of-result c =
    let e : c.loop-i.i ≡ c.args.vars = omega arith in
    let filled = subst (λ (n : ℕ). IsFilled n c.loop-i.items.items c.loop-i.places.items) e c.loop-i.invariant.filled in
    let a = c.in_ok-from_elem.field-0.ok.0 in (
      placed_filled c.args.vars c.loop-i.items.items c.loop-i.places.items c.requires filled,
      filled.places_long,
      omega (arith, c.loop-i.invariant.items_room),
      omega (arith, filled.places_long, c.in_ok-from_elem.ensures.len),
    )

pub returns-clause-members : goal.returns-clause-members
returns-clause-members c =
    let e : c.loop-i.i ≡ c.args.vars = omega arith in
    full_filled c.args.vars c.loop-i.items.items c.loop-i.places.items (subst (λ (n : ℕ). IsFilled n c.loop-i.items.items c.loop-i.places.items) e c.loop-i.invariant.filled)
