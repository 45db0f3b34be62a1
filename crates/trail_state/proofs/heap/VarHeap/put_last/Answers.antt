use Rattle.std.proofs.Common.{◌≡◌, length, List, ℕ, ap, sym, ◌∙◌, subst, arith}
use Rattle.std.specs.Prelude.{Contains}
use Rattle.std.proofs.Math.ListN.{length-set}
use Rattle.trail_state.specs.Heaps.{HeapView}
use Rattle.trail_state.proofs.Places.{placed_push, with_pushed}
use Rattle.trail_state.proofs.heap.VarHeap.put_last.Goals as goal

members : (c : goal.After-push_reserved) → c.self.inside.items.items ≡ c.args.self.now.members
members c = ap (λ (h : HeapView). h.members) c.self.view_is

free : (c : goal.After-push_reserved) → ¬ Contains c.self.inside.items.items c.args.var
free c = subst (λ (z : List ℕ). ¬ Contains z c.args.var) (sym (members c)) c.requires.free

count : (c : goal.After-push_reserved) → c.len-place.result ≡ length c.self.inside.items.items
count c = let long = c.self.inside.items.ok.0 in omega (arith, c.len-place.ensures)

pub invariant_of-self : goal.invariant_of-self
invariant_of-self c =
    let vars = ap (λ (h : HeapView). h.vars) c.self.view_is in
    let m = ap (λ (z : List ℕ). length z) (members c) in
    rw (c.push_reserved.ensures.items, count c) (
      placed_push c.self.inside.items.items c.self.inside.places.items c.self.invariant.0 c.args.var c.requires.low (omega (arith, c.self.invariant.1, c.requires.high)) (free c) (omega (arith, c.self.invariant.1, c.requires.room)),
      length-set c.self.inside.places.items c.args.var (length c.self.inside.items.items) ∙ c.self.invariant.1,
      omega (arith, c.self.invariant.2, c.push_reserved.ensures.capacity),
      c.self.invariant.3 ∙ sym (length-set c.self.inside.places.items c.args.var (length c.self.inside.items.items)),
    )

pub returns-clause-members : goal.returns-clause-members
returns-clause-members c = rw (c.push_reserved.ensures.items, ← members c) (with_pushed c.self.inside.items.items c.args.var (free c))
