use Rattle.std.proofs.Common.{◌≡◌, ◌+◌, ◌-◌, ℕ, length, take, refl, ap, ◌∙◌, arith}
use Rattle.std.proofs.lemmas.List.{length-take}
use Rattle.std.proofs.lemmas.Option.{slice_get_read}
use Rattle.dg_base.proofs.Lists.{contains_place}
use Rattle.from_read.proofs.Stacks.{seen_as, last_is, some_read, some_order, mark_in, popped, fine_cut, cut_is}
use Rattle.from_read.proofs.from_read.FromRead.undo_last.Goals as goal

pub overflow_sub-last : goal.overflow_sub-last
overflow_sub-last c =
    let some = rw (← c.self.view_is) at c.requires in
    let long = c.self.inside.true_atoms.ok.0 in
    omega (arith, some, c.len-last.ensures, long)

pub index-atom-requires : goal.index-atom-requires
index-atom-requires c =
    let some = rw (← c.self.view_is) at c.requires in
    let long = c.self.inside.true_atoms.ok.0 in
    omega (arith, some, c.len-last.ensures, long)

pub index-kind-requires : goal.index-kind-requires
index-kind-requires c =
    let i = c.self.inside in
    let v = seen_as i.nodes.items i.kinds.items i.true_atoms.items i.found.list in
    let some = rw (← c.self.view_is) at c.requires in
    let long_atoms = i.true_atoms.ok.0 in
    let long : (c.len-last.result - 1) + 1 ≡ length i.true_atoms.items = omega (arith, some, c.len-last.ensures, long_atoms) in
    let here = slice_get_read i.true_atoms.items (length i.true_atoms.items) (c.len-last.result - 1) c.index-atom.result.now refl (omega (arith, long)) c.index-atom.ensures in
    let below = c.self.invariant.0.whole.within c.index-atom.result.now (contains_place i.true_atoms.items (c.len-last.result - 1) c.index-atom.result.now here) in
    let long_kinds = i.kinds.ok.0 in
    omega (arith, below, long_kinds)

pub index-mark-requires : goal.index-mark-requires
index-mark-requires c =
    let i = c.self.inside in
    let v = seen_as i.nodes.items i.kinds.items i.true_atoms.items i.found.list in
    let some = rw (← c.self.view_is) at c.requires in
    let long_atoms = i.true_atoms.ok.0 in
    let long : (c.len-last.result - 1) + 1 ≡ length i.true_atoms.items = omega (arith, some, c.len-last.ensures, long_atoms) in
    let long_marks = i.marks.ok.0 in
    omega (arith, long, long_marks, c.self.invariant.0.marks_long)

pub pop_atom-requires-clause-reads : goal.pop_atom-requires-clause-reads
pop_atom-requires-clause-reads c =
    let i = c.self.inside in
    let v = seen_as i.nodes.items i.kinds.items i.true_atoms.items i.found.list in
    let some = rw (← c.self.view_is) at c.requires in
    let long_atoms = i.true_atoms.ok.0 in
    let long : (c.len-last.result - 1) + 1 ≡ length i.true_atoms.items = omega (arith, some, c.len-last.ensures, long_atoms) in
    let last = last_is v i.marks.items i.reads.items i.orders.items (c.len-last.result - 1) c.index-mark.result.now c.index-atom.result.now c.index-kind.result.now c.self.invariant.0 long c.index-atom.ensures c.index-mark.ensures c.index-kind.ensures in
    some_read v i.marks.items i.reads.items i.orders.items (c.len-last.result - 1) c.index-mark.result.now c.index-atom.result.now c.index-kind.result.now c.self.invariant.0 last

pub pop_atom-requires-clause-orders : goal.pop_atom-requires-clause-orders
pop_atom-requires-clause-orders c =
    let i = c.self.inside in
    let v = seen_as i.nodes.items i.kinds.items i.true_atoms.items i.found.list in
    let some = rw (← c.self.view_is) at c.requires in
    let long_atoms = i.true_atoms.ok.0 in
    let long : (c.len-last.result - 1) + 1 ≡ length i.true_atoms.items = omega (arith, some, c.len-last.ensures, long_atoms) in
    let last = last_is v i.marks.items i.reads.items i.orders.items (c.len-last.result - 1) c.index-mark.result.now c.index-atom.result.now c.index-kind.result.now c.self.invariant.0 long c.index-atom.ensures c.index-mark.ensures c.index-kind.ensures in
    some_order v i.marks.items i.reads.items i.orders.items (c.len-last.result - 1) c.index-mark.result.now c.index-atom.result.now c.index-kind.result.now c.self.invariant.0 last

pub cut_to-requires : goal.cut_to-requires
cut_to-requires c =
    let i = c.self.inside in
    let v = seen_as i.nodes.items i.kinds.items i.true_atoms.items i.found.list in
    let some = rw (← c.self.view_is) at c.requires in
    let long_atoms = i.true_atoms.ok.0 in
    let long : (c.len-last.result - 1) + 1 ≡ length i.true_atoms.items = omega (arith, some, c.len-last.ensures, long_atoms) in
    let last = last_is v i.marks.items i.reads.items i.orders.items (c.len-last.result - 1) c.index-mark.result.now c.index-atom.result.now c.index-kind.result.now c.self.invariant.0 long c.index-atom.ensures c.index-mark.ensures c.index-kind.ensures in
    mark_in v i.marks.items i.reads.items i.orders.items (c.len-last.result - 1) c.index-mark.result.now c.index-atom.result.now c.index-kind.result.now c.self.invariant.0 last

pub invariant_of-self : goal.invariant_of-self
invariant_of-self c =
    let i = c.self.inside in
    let v = seen_as i.nodes.items i.kinds.items i.true_atoms.items i.found.list in
    let some = rw (← c.self.view_is) at c.requires in
    let long_atoms = i.true_atoms.ok.0 in
    let long : (c.len-last.result - 1) + 1 ≡ length i.true_atoms.items = omega (arith, some, c.len-last.ensures, long_atoms) in
    let last = last_is v i.marks.items i.reads.items i.orders.items (c.len-last.result - 1) c.index-mark.result.now c.index-atom.result.now c.index-kind.result.now c.self.invariant.0 long c.index-atom.ensures c.index-mark.ensures c.index-kind.ensures in
    rw (c.truncate.ensures.items, c.truncate-2.ensures.items, c.cut_to.ensures, c.pop_atom.ensures.reads, c.pop_atom.ensures.orders) (
      popped v i.marks.items i.reads.items i.orders.items (c.len-last.result - 1) c.index-mark.result.now c.index-atom.result.now c.index-kind.result.now c.self.invariant.0 last,
      fine_cut i.nodes.items i.kinds.items i.found c.index-mark.result.now c.self.invariant.1,
      c.self.invariant.2,
      c.self.invariant.3,
      omega (arith, c.self.invariant.4, c.truncate.ensures.capacity),
      omega (arith, c.self.invariant.5, c.truncate-2.ensures.capacity),
      omega (arith, c.self.invariant.6, c.pop_atom.ensures.room.0),
      omega (arith, c.self.invariant.7, c.pop_atom.ensures.room.1),
    )

pub returns-clause-atoms : goal.returns-clause-atoms
returns-clause-atoms c =
    let i = c.self.inside in
    let v = seen_as i.nodes.items i.kinds.items i.true_atoms.items i.found.list in
    let some = rw (← c.self.view_is) at c.requires in
    let long_atoms = i.true_atoms.ok.0 in
    let long : (c.len-last.result - 1) + 1 ≡ length i.true_atoms.items = omega (arith, some, c.len-last.ensures, long_atoms) in
    let count : (c.len-last.result - 1) ≡ length i.true_atoms.items - 1 = omega (arith, long) in
    rw (← c.self.view_is) (c.truncate.ensures.items ∙ ap (λ (k : ℕ). take k i.true_atoms.items) count)

pub returns-clause-problem : goal.returns-clause-problem
returns-clause-problem c = rw (← c.self.view_is) (refl, refl)

pub returns-clause-cut : goal.returns-clause-cut
returns-clause-cut c =
    let i = c.self.inside in
    rw (← c.self.view_is, c.cut_to.ensures) (cut_is i.found.list (take c.index-mark.result.now i.found.list) c.index-mark.result.now refl)

pub returns-clause-fewer : goal.returns-clause-fewer
returns-clause-fewer c =
    let i = c.self.inside in
    rw (← c.self.view_is, c.cut_to.ensures) (omega (arith, length-take c.index-mark.result.now i.found.list))
