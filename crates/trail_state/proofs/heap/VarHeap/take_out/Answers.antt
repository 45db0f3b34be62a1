use Rattle.std.proofs.Common.{◌≡◌, ◌-◌, ◌+◌, get_or, length, take, drop, ◌++◌, List, ℕ, ap, sym, ◌∙◌, subst, arith}
use Rattle.std.specs.Prelude.{Contains}
use Rattle.std.proofs.Math.ListN.{length-set}
use Rattle.std.proofs.lemmas.List.{get_or_read}
use Rattle.trail_state.specs.Heaps.{HeapView, nowhere}
use Rattle.trail_state.proofs.Places.{placed_pop, placed_member, member_range, without_last, without_reordered, written_back}
use Rattle.trail_state.proofs.heap.VarHeap.take_out.Goals as goal

members : (c : goal.After-self-3-1) → c.self.inside.items.items ≡ c.args.self.now.members
members c = ap (λ (h : HeapView). h.members) c.self.view_is

had : (c : goal.After-self-3-1) → Contains c.self.inside.items.items c.args.var
had c = subst (λ (z : List ℕ). Contains z c.args.var) (sym (members c)) c.requires

last_is : (c : goal.After-self-3-1) → get_or c.swap_items.new.items (c.len-last.result - 1) 0 ≡ c.args.var
last_is c =
    let m = placed_member c.self.inside.items.items c.self.inside.places.items c.self.invariant.0 c.args.var (had c) in
    let r = member_range c.self.inside.items.items c.self.inside.places.items c.self.invariant.0 c.args.var (had c) in
    let read : get_or c.self.inside.places.items c.args.var 0 ≡ c.index.result.now = sym (get_or_read c.self.inside.places.items _ _ r.1 c.index.ensures 0) in
    let p = c.swap_items.ensures.moved in
    rw (p, c.deref_mut.ensures.value, ← read) m.1

items_long : (c : goal.After-self-3-1) → length c.swap_items.new.items ≡ length c.self.inside.items.items
items_long c = c.swap_items.ensures.items.count ∙ ap (λ (z : List ℕ). length z) c.deref_mut.ensures.value

places_long : (c : goal.After-self-3-1) → length c.swap_items.new.places ≡ length c.self.inside.places.items
places_long c = c.swap_items.ensures.long ∙ ap (λ (z : List ℕ). length z) c.deref_mut-2.ensures.value

new_items : (c : goal.After-self-3-1) → c.truncate.new.self.items ≡ take (c.len-last.result - 1) c.swap_items.new.items
new_items c =
    let long = c.self.inside.items.ok.0 in
    c.truncate.ensures.items ∙ ap (λ (z : List ℕ). take (c.len-last.result - 1) z) (written_back c.self.inside.items.len c.swap_items.new.items c.self.inside.items.items (items_long c) (omega arith))

new_places : (c : goal.After-self-3-1) → take c.self.inside.places.len (c.swap_items.new.places ++ drop (length c.swap_items.new.places) c.self.inside.places.items) ≡ c.swap_items.new.places
new_places c =
    let long = c.self.inside.places.ok.0 in
    written_back c.self.inside.places.len c.swap_items.new.places c.self.inside.places.items (places_long c) (omega arith)

length_is : (c : goal.After-self-3-1) → length c.swap_items.new.items ≡ (c.len-last.result - 1) + 1
length_is c =
    let long = c.self.inside.items.ok.0 in
    let m = placed_member c.self.inside.items.items c.self.inside.places.items c.self.invariant.0 c.args.var (had c) in
    omega (arith, items_long c, c.len-last.ensures)

pub invariant_of-self : goal.invariant_of-self
invariant_of-self c =
    rw (new_items c, new_places c) (
      placed_pop c.swap_items.new.items c.swap_items.new.places c.swap_items.ensures.placed c.args.var (c.len-last.result - 1) (length_is c) (last_is c),
      length-set c.swap_items.new.places c.args.var nowhere ∙ (places_long c ∙ c.self.invariant.1),
      omega (arith, c.self.invariant.2, c.truncate.ensures.capacity),
      c.self.invariant.3 ∙ sym (length-set c.swap_items.new.places c.args.var nowhere ∙ places_long c),
    )

pub returns-clause-members : goal.returns-clause-members
returns-clause-members c =
    rw (new_items c, ← members c, ← c.deref_mut.ensures.value)
    (without_reordered c.swap_items.ensures.items (without_last c.swap_items.new.items c.swap_items.new.places c.swap_items.ensures.placed c.args.var (c.len-last.result - 1) (length_is c) (last_is c)))
