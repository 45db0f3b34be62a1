use Rattle.std.proofs.Common.{◌<◌, ◌++◌, ◌∷◌, [], length, arith}
use Rattle.std.proofs.lemmas.List.{length_push}
use Rattle.order_solver.proofs.Undoing.{ordering_push, room_lits}
use Rattle.order_solver.proofs.solver.OrderSolver.assert_atom.Goals as goal

pub push_reserved-requires : goal.push_reserved-requires
push_reserved-requires c =
    let i = c.self.inside in
    let fits = rw (← c.self.view_is) at c.requires.fits in
    let free = rw (← c.self.view_is) at c.requires.free in
    let room = room_lits fits.0 _ c.args.lit fits.1 fits.2 free in
    let long = i.asserted.ok.0 in
    omega (arith, room, long, fits.1.codes, c.self.invariant.0)

pub invariant_of-self : goal.invariant_of-self
invariant_of-self c =
    let i = c.self.inside in
    let fits = rw (← c.self.view_is) at c.requires.fits in
    let free = rw (← c.self.view_is) at c.requires.free in
    let room = room_lits fits.0 _ c.args.lit fits.1 fits.2 free in
    let small = fits.0.over.few_vars in
    rw c.push_reserved.ensures.items (
      omega (arith, c.self.invariant.0, c.push_reserved.ensures.capacity),
      c.self.invariant.1,
      omega (arith, length_push i.asserted.items c.args.lit, room, small),
    )

pub returns-clause-fits : goal.returns-clause-fits
returns-clause-fits c = λ p is over.
    let here = rw (← c.self.view_is) at is in
    let free = rw (← c.self.view_is) at c.requires.free in
    rw c.push_reserved.ensures.items (ordering_push p _ c.args.lit here over free)
