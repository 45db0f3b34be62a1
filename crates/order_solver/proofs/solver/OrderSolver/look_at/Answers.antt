use Rattle.std.proofs.Common.{◌++◌, ◌∷◌, []}
use Rattle.dg_base.proofs.Lists.{get_there}
use Rattle.order_solver.specs.Ordering.{Mark, own_at}
use Rattle.order_solver.proofs.Grown.{own_grown}
use Rattle.order_solver.proofs.Looking.{IsLook, long_both, acyclic_both, look_room, look_caused, look_cause, look_unit, look_none}
use Rattle.order_solver.proofs.Undoing.{IsCutTo, ordering_back}
use Rattle.order_solver.proofs.solver.OrderSolver.look_at.Goals as goal

pub hold_own-requires-clause-room : goal.hold_own-requires-clause-room
hold_own-requires-clause-room g c =
    let p = c.args.problem.now in
    let s = c.args.self.now in
    let a = c.args.atom in
    let told = c.place-place.ensures in
    let look : IsLook p s a = record { fits = c.requires.fits; going = c.requires.going; worked = c.requires.worked; below = c.requires.atom; free = c.requires.free; derived = told.derived; long = long_both s told.local_long told.global_long } in
    look_room p s a look

pub returns-in_default-clause-fits : goal.returns-in_default-clause-fits
returns-in_default-clause-fits g c =
    let p = c.args.problem.now in
    let s = c.args.self.now in
    let a = c.args.atom in
    let told = c.place-place.ensures in
    let look : IsLook p s a = record { fits = c.requires.fits; going = c.requires.going; worked = c.requires.worked; below = c.requires.atom; free = c.requires.free; derived = told.derived; long = long_both s told.local_long told.global_long } in
    let m : Mark = record { local = c.place-place.result.local; global = c.place-place.result.global; atoms = c.place-place.result.atoms } in
    let held = c.hold_own.new.self in
    let new = c.take_back.new.self in
    let back = c.take_back.ensures in
    let cut : IsCutTo m held.froms new.froms = record { nodes = back.problem.0; kinds = back.problem.1; atoms = back.atoms } in
    ordering_back p s held new m c.requires.fits told.local told.global told.atoms told.local_long told.global_long (own_grown p a (own_at p.atoms a) s held c.hold_own.ensures.extended c.hold_own.ensures.rest) back.local back.global cut back.rest.0 back.rest.1 back.rest.2 back.rest.3

pub returns-in_err-clause-clause-fits : goal.returns-in_err-clause-clause-fits
returns-in_err-clause-clause-fits g c =
    let p = c.args.problem.now in
    let s = c.args.self.now in
    let a = c.args.atom in
    let told = c.place-place.ensures in
    let look : IsLook p s a = record { fits = c.requires.fits; going = c.requires.going; worked = c.requires.worked; below = c.requires.atom; free = c.requires.free; derived = told.derived; long = long_both s told.local_long told.global_long } in
    let m : Mark = record { local = c.place-place.result.local; global = c.place-place.result.global; atoms = c.place-place.result.atoms } in
    let held = c.hold_own.new.self in
    let new = c.take_back-2.new.self in
    let back = c.take_back-2.ensures in
    let cut : IsCutTo m held.froms new.froms = record { nodes = back.problem.0; kinds = back.problem.1; atoms = back.atoms } in
    ordering_back p s held new m c.requires.fits told.local told.global told.atoms told.local_long told.global_long (own_grown p a (own_at p.atoms a) s held c.hold_own.ensures.extended c.hold_own.ensures.rest) back.local back.global cut back.rest.0 back.rest.1 back.rest.2 back.rest.3

pub returns-clause-fits : goal.returns-clause-fits
returns-clause-fits g c =
    let p = c.args.problem.now in
    let s = c.args.self.now in
    let a = c.args.atom in
    let told = c.place-place.ensures in
    let look : IsLook p s a = record { fits = c.requires.fits; going = c.requires.going; worked = c.requires.worked; below = c.requires.atom; free = c.requires.free; derived = told.derived; long = long_both s told.local_long told.global_long } in
    let m : Mark = record { local = c.place-place.result.local; global = c.place-place.result.global; atoms = c.place-place.result.atoms } in
    let held = c.hold_own.new.self in
    let new = c.take_back-2.new.self in
    let back = c.take_back-2.ensures in
    let cut : IsCutTo m held.froms new.froms = record { nodes = back.problem.0; kinds = back.problem.1; atoms = back.atoms } in
    ordering_back p s held new m c.requires.fits told.local told.global told.atoms told.local_long told.global_long (own_grown p a (own_at p.atoms a) s held c.hold_own.ensures.extended c.hold_own.ensures.rest) back.local back.global cut back.rest.0 back.rest.1 back.rest.2 back.rest.3

pub returns-in_default-clause-found : goal.returns-in_default-clause-found
returns-in_default-clause-found g c = λ x h at.
    let p = c.args.problem.now in
    let s = c.args.self.now in
    let a = c.args.atom in
    let told = c.place-place.ensures in
    let look : IsLook p s a = record { fits = c.requires.fits; going = c.requires.going; worked = c.requires.worked; below = c.requires.atom; free = c.requires.free; derived = told.derived; long = long_both s told.local_long told.global_long } in
    look_none p s c.hold_own.new.self a x (own_at p.atoms a) h look at (c.hold_own.ensures.extended h) c.in_default.ensures.none (c.hold_own.ensures.acyclic h (acyclic_both s told.local_acyclic told.global_acyclic h))

pub explain-clause-requires-clause-caused : goal.explain-clause-requires-clause-caused
explain-clause-requires-clause-caused g c =
    let p = c.args.problem.now in
    let s = c.args.self.now in
    let a = c.args.atom in
    let told = c.place-place.ensures in
    let look : IsLook p s a = record { fits = c.requires.fits; going = c.requires.going; worked = c.requires.worked; below = c.requires.atom; free = c.requires.free; derived = told.derived; long = long_both s told.local_long told.global_long } in
    let held = c.hold_own.new.self in
    let closing = c.in-Some.closing in
    let own = c.in-Some.ensures.some in
    let x = get_there p.atoms a c.requires.atom in
    let lits = s.asserted ++ x.0.lit ∷ [] in
    let caused = look_caused p s held a x.0 (own_at p.atoms a) closing.edge.graph look x.1 (c.hold_own.ensures.extended closing.edge.graph) in
    let cause = look_cause p s held a x.0 closing x.1 own in
    (lits, caused, cause)

pub returns-clause-found : goal.returns-clause-found
returns-clause-found g c =
    let p = c.args.problem.now in
    let s = c.args.self.now in
    let a = c.args.atom in
    let told = c.place-place.ensures in
    let look : IsLook p s a = record { fits = c.requires.fits; going = c.requires.going; worked = c.requires.worked; below = c.requires.atom; free = c.requires.free; derived = told.derived; long = long_both s told.local_long told.global_long } in
    let held = c.hold_own.new.self in
    let closing = c.in-Some.closing in
    let own = c.in-Some.ensures.some in
    let x = get_there p.atoms a c.requires.atom in
    let lits = s.asserted ++ x.0.lit ∷ [] in
    let caused = look_caused p s held a x.0 (own_at p.atoms a) closing.edge.graph look x.1 (c.hold_own.ensures.extended closing.edge.graph) in
    let cause = look_cause p s held a x.0 closing x.1 own in
    look_unit p s held a x.0 closing c.in_ok-clause.clause look x.1 own (c.in_ok-clause.ensures.explained lits caused cause) c.in_ok-clause.ensures.denies
