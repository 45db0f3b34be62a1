use Rattle.std.proofs.Common.{refl, sym, ◌∙◌, arith}
use Rattle.std.proofs.lemmas.List.{get_or_default}
use Rattle.cnf_problem.specs.declared.problem.AtomKind.TheVariants.{Plain}
use Rattle.from_read.proofs.Stacks.{seen_as, said_of, pushed, grown_all, grown_take, grown_long, room_atoms, reads_among, orders_among, reads_short, orders_short}
use Rattle.from_read.proofs.from_read.FromRead.on_true.Goals as goal

pub index-kind-requires : goal.index-kind-requires
index-kind-requires c =
    let within = rw (← c.self.view_is) at c.requires.within in
    let long = c.self.inside.kinds.ok.0 in
    omega (arith, within, long)

pub put_all-requires-clause-atom : goal.put_all-requires-clause-atom
put_all-requires-clause-atom c =
    let within = rw (← c.self.view_is) at c.requires.within in
    rw c.deref-2.ensures.value within

pub put_all-requires-clause-reads : goal.put_all-requires-clause-reads
put_all-requires-clause-reads c =
    let i = c.self.inside in
    let v = seen_as i.nodes.items i.kinds.items i.true_atoms.items i.found.list in
    rw (c.deref-3.ensures.value, c.deref-2.ensures.value) (reads_among v i.marks.items i.reads.items i.orders.items c.self.invariant.0)

pub put_all-requires-clause-orders : goal.put_all-requires-clause-orders
put_all-requires-clause-orders c =
    let i = c.self.inside in
    let v = seen_as i.nodes.items i.kinds.items i.true_atoms.items i.found.list in
    rw (c.deref-4.ensures.value, c.deref-2.ensures.value) (orders_among v i.marks.items i.reads.items i.orders.items c.self.invariant.0)

pub put_all-requires-clause-fine : goal.put_all-requires-clause-fine
put_all-requires-clause-fine c = rw (c.deref.ensures.value, c.deref-2.ensures.value) c.self.invariant.1

pub push_atom-requires-clause-reads : goal.push_atom-requires-clause-reads
push_atom-requires-clause-reads c =
    let i = c.self.inside in
    let v = seen_as i.nodes.items i.kinds.items i.true_atoms.items i.found.list in
    let within = rw (← c.self.view_is) at c.requires.within in
    let free = rw (← c.self.view_is) at c.requires.free in
    let room = room_atoms v c.args.atom c.self.invariant.0.whole within free in
    omega (arith, room, reads_short v i.marks.items i.reads.items i.orders.items c.self.invariant.0, c.self.invariant.6)

pub push_atom-requires-clause-orders : goal.push_atom-requires-clause-orders
push_atom-requires-clause-orders c =
    let i = c.self.inside in
    let v = seen_as i.nodes.items i.kinds.items i.true_atoms.items i.found.list in
    let within = rw (← c.self.view_is) at c.requires.within in
    let free = rw (← c.self.view_is) at c.requires.free in
    let room = room_atoms v c.args.atom c.self.invariant.0.whole within free in
    omega (arith, room, orders_short v i.marks.items i.reads.items i.orders.items c.self.invariant.0, c.self.invariant.7)

pub push_reserved-requires : goal.push_reserved-requires
push_reserved-requires c =
    let i = c.self.inside in
    let v = seen_as i.nodes.items i.kinds.items i.true_atoms.items i.found.list in
    let within = rw (← c.self.view_is) at c.requires.within in
    let free = rw (← c.self.view_is) at c.requires.free in
    let room = room_atoms v c.args.atom c.self.invariant.0.whole within free in
    let long = i.marks.ok.0 in
    omega (arith, room, long, c.self.invariant.0.marks_long, c.self.invariant.5)

pub push_reserved-requires-2 : goal.push_reserved-requires-2
push_reserved-requires-2 c =
    let i = c.self.inside in
    let v = seen_as i.nodes.items i.kinds.items i.true_atoms.items i.found.list in
    let within = rw (← c.self.view_is) at c.requires.within in
    let free = rw (← c.self.view_is) at c.requires.free in
    let room = room_atoms v c.args.atom c.self.invariant.0.whole within free in
    let long = i.true_atoms.ok.0 in
    omega (arith, room, long, c.self.invariant.4)

pub overflow_sub-result : goal.overflow_sub-result
overflow_sub-result c =
    let i = c.self.inside in
    let v = seen_as i.nodes.items i.kinds.items i.true_atoms.items i.found.list in
    let within = rw (← c.self.view_is) at c.requires.within in
    let free = rw (← c.self.view_is) at c.requires.free in
    let put = said_of i.nodes.items c.deref.result.now i.kinds.items c.deref-2.result.now i.reads.items c.deref-3.result.now i.orders.items c.deref-4.result.now i.true_atoms.items c.args.atom i.found.list c.put_all.new.found.list c.deref.ensures.value c.deref-2.ensures.value c.deref-3.ensures.value c.deref-4.ensures.value (c.put_all.ensures.read, c.put_all.ensures.order, c.put_all.ensures.plain) in
    let kind = get_or_default i.kinds.items c.args.atom Plain c.index-kind.result.now within ∙ sym c.index-kind.ensures in
    let grown = grown_all v i.reads.items i.orders.items c.args.atom c.put_all.new.found.list c.index-kind.result.now kind put in
    omega (arith, c.len.ensures, c.len-before.ensures, grown_long i.found.list c.put_all.new.found.list grown)

pub invariant_of-self : goal.invariant_of-self
invariant_of-self c =
    let i = c.self.inside in
    let v = seen_as i.nodes.items i.kinds.items i.true_atoms.items i.found.list in
    let within = rw (← c.self.view_is) at c.requires.within in
    let free = rw (← c.self.view_is) at c.requires.free in
    let put = said_of i.nodes.items c.deref.result.now i.kinds.items c.deref-2.result.now i.reads.items c.deref-3.result.now i.orders.items c.deref-4.result.now i.true_atoms.items c.args.atom i.found.list c.put_all.new.found.list c.deref.ensures.value c.deref-2.ensures.value c.deref-3.ensures.value c.deref-4.ensures.value (c.put_all.ensures.read, c.put_all.ensures.order, c.put_all.ensures.plain) in
    let kind = get_or_default i.kinds.items c.args.atom Plain c.index-kind.result.now within ∙ sym c.index-kind.ensures in
    let parts = pushed v i.marks.items i.reads.items i.orders.items c.args.atom c.put_all.new.found.list c.index-kind.result.now kind c.self.invariant.0 within free put in
    let fine = rw (c.deref.ensures.value, c.deref-2.ensures.value) at c.put_all.ensures.fine in
    rw (c.push_reserved-2.ensures.items, c.push_reserved.ensures.items, c.push_atom.ensures.reads, c.push_atom.ensures.orders, c.len-before.ensures) (
      parts,
      fine,
      c.self.invariant.2,
      c.self.invariant.3,
      omega (arith, c.self.invariant.4, c.push_reserved-2.ensures.capacity),
      omega (arith, c.self.invariant.5, c.push_reserved.ensures.capacity),
      omega (arith, c.self.invariant.6, c.push_atom.ensures.room.0),
      omega (arith, c.self.invariant.7, c.push_atom.ensures.room.1),
    )

pub returns-clause-atoms : goal.returns-clause-atoms
returns-clause-atoms c = rw (← c.self.view_is) c.push_reserved-2.ensures.items

pub returns-clause-problem : goal.returns-clause-problem
returns-clause-problem c = rw (← c.self.view_is) (refl, refl)

pub returns-clause-older : goal.returns-clause-older
returns-clause-older c =
    let i = c.self.inside in
    let v = seen_as i.nodes.items i.kinds.items i.true_atoms.items i.found.list in
    let within = rw (← c.self.view_is) at c.requires.within in
    let free = rw (← c.self.view_is) at c.requires.free in
    let put = said_of i.nodes.items c.deref.result.now i.kinds.items c.deref-2.result.now i.reads.items c.deref-3.result.now i.orders.items c.deref-4.result.now i.true_atoms.items c.args.atom i.found.list c.put_all.new.found.list c.deref.ensures.value c.deref-2.ensures.value c.deref-3.ensures.value c.deref-4.ensures.value (c.put_all.ensures.read, c.put_all.ensures.order, c.put_all.ensures.plain) in
    let kind = get_or_default i.kinds.items c.args.atom Plain c.index-kind.result.now within ∙ sym c.index-kind.ensures in
    let grown = grown_all v i.reads.items i.orders.items c.args.atom c.put_all.new.found.list c.index-kind.result.now kind put in
    rw (← c.self.view_is) (grown_take i.found.list c.put_all.new.found.list grown)

pub returns-clause-count : goal.returns-clause-count
returns-clause-count c =
    let i = c.self.inside in
    let v = seen_as i.nodes.items i.kinds.items i.true_atoms.items i.found.list in
    let within = rw (← c.self.view_is) at c.requires.within in
    let free = rw (← c.self.view_is) at c.requires.free in
    let put = said_of i.nodes.items c.deref.result.now i.kinds.items c.deref-2.result.now i.reads.items c.deref-3.result.now i.orders.items c.deref-4.result.now i.true_atoms.items c.args.atom i.found.list c.put_all.new.found.list c.deref.ensures.value c.deref-2.ensures.value c.deref-3.ensures.value c.deref-4.ensures.value (c.put_all.ensures.read, c.put_all.ensures.order, c.put_all.ensures.plain) in
    let kind = get_or_default i.kinds.items c.args.atom Plain c.index-kind.result.now within ∙ sym c.index-kind.ensures in
    let grown = grown_all v i.reads.items i.orders.items c.args.atom c.put_all.new.found.list c.index-kind.result.now kind put in
    rw (← c.self.view_is) (omega (arith, c.len.ensures, c.len-before.ensures, grown_long i.found.list c.put_all.new.found.list grown))

pub returns-clause-derived : goal.returns-clause-derived
returns-clause-derived c =
    let i = c.self.inside in
    let v = seen_as i.nodes.items i.kinds.items i.true_atoms.items i.found.list in
    let within = rw (← c.self.view_is) at c.requires.within in
    let free = rw (← c.self.view_is) at c.requires.free in
    let put = said_of i.nodes.items c.deref.result.now i.kinds.items c.deref-2.result.now i.reads.items c.deref-3.result.now i.orders.items c.deref-4.result.now i.true_atoms.items c.args.atom i.found.list c.put_all.new.found.list c.deref.ensures.value c.deref-2.ensures.value c.deref-3.ensures.value c.deref-4.ensures.value (c.put_all.ensures.read, c.put_all.ensures.order, c.put_all.ensures.plain) in
    let kind = get_or_default i.kinds.items c.args.atom Plain c.index-kind.result.now within ∙ sym c.index-kind.ensures in
    let parts = pushed v i.marks.items i.reads.items i.orders.items c.args.atom c.put_all.new.found.list c.index-kind.result.now kind c.self.invariant.0 within free put in
    rw c.push_reserved-2.ensures.items parts.whole
