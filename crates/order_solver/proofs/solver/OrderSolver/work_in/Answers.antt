use Rattle.std.proofs.Common.{◌≡◌, ◌∙◌, ◌++◌, ◌∷◌, [], List, map, length, ap, arith}
use Rattle.std.proofs.lemmas.List.{length-map, map-append}
use Rattle.std.proofs.lemmas.Option.{slice_get_within}
use Rattle.cnf_problem.specs.declared.problem.Graph.TheVariants.{Local, Global}
use Rattle.cycle_detect.specs.Parts.{EdgesView}
use Rattle.order_solver.specs.declared.solver.Place.{Place}
use Rattle.order_solver.specs.Ordering.{SolverView, Mark, mark_now}
use Rattle.order_solver.specs.Working.{IsClosing}
use Rattle.order_solver.proofs.Checking.{lits_with, with_mark, working_start, next_in, next_none, ordering_marked, lits_apart}
use Rattle.order_solver.proofs.Undoing.{IsCutTo, mark_of, few_lits, ordering_as, ordering_back}
use Rattle.order_solver.proofs.solver.OrderSolver.work_in.Goals as goal

abbrev mark_at : Place → Mark
mark_at m = record { local = m.local; global = m.global; atoms = m.atoms }

pub hold_literal-requires-clause-free : goal.hold_literal-requires-clause-free
hold_literal-requires-clause-free g c = next_none c.args.problem.now c.args.self.now c.args.lit c.requires.fits c.requires.going c.requires.lit

pub hold_literal-requires-clause-working : goal.hold_literal-requires-clause-working
hold_literal-requires-clause-working g c =
    let p = c.args.problem.now in
    let s = c.args.self.now in
    let lit = c.args.lit in
    let at = c.requires.place in
    let fits = c.requires.fits in
    let start = working_start p s c.args.place fits c.requires.going at in
    let has = next_in s lit c.requires.lit in
    (lits_with s, start, has)

pub push_reserved-requires : goal.push_reserved-requires
push_reserved-requires g c =
    let p = c.args.problem.now in
    let s = c.args.self.now in
    let lit = c.args.lit in
    let at = c.requires.place in
    let fits = c.requires.fits in
    let held = c.hold_literal.new.self in
    let grown = c.hold_literal.ensures.grown in
    let i = c.self.inside in
    let v = c.self.view_is in
    let few = few_lits p.vars s.asserted fits.over fits.once in
    let within = slice_get_within s.asserted (length s.marks) lit c.requires.lit in
    let long = i.marks.ok.0 in
    let count = length-map i.marks.items mark_at in
    let marks = ap (λ (w : SolverView). length w.marks) v ∙ ap (λ (l : List Mark). length l) grown.marks in
    let nodes = ap (λ (w : SolverView). w.atoms.nodes) v ∙ ap (λ (z : EdgesView). z.nodes) grown.atoms in
    omega (arith, few, within, long, count, marks, nodes, fits.codes, c.self.invariant.1)

pub returns-in_default-clause-fits : goal.returns-in_default-clause-fits
returns-in_default-clause-fits g c =
    let p = c.args.problem.now in
    let s = c.args.self.now in
    let lit = c.args.lit in
    let at = c.requires.place in
    let fits = c.requires.fits in
    let start = working_start p s c.args.place fits c.requires.going at in
    let has = next_in s lit c.requires.lit in
    let held = c.hold_literal.new.self in
    let grown = c.hold_literal.ensures.grown in
    let i = c.self.inside in
    let v = c.self.view_is in
    let m : Mark = mark_at c.args.place in
    let here : m ≡ mark_now s = mark_of c.args.place.local (length s.local.edges) c.args.place.global (length s.global.edges) c.args.place.atoms (length s.froms.true_atoms) at.local at.global at.atoms in
    let marked = ordering_marked p s held lit m fits c.requires.going c.requires.lit here grown c.in_default.ensures.all (c.in_default.ensures.none (lits_with s) start has) in
    ordering_as p (with_mark held m) i.local i.global i.froms i.atoms i.asserted.items (map mark_at c.push_reserved.new.self.items) i.stuck
    (ap (λ (w : SolverView). w.local) v)
    (ap (λ (w : SolverView). w.global) v)
    (ap (λ (w : SolverView). w.froms) v)
    (ap (λ (w : SolverView). w.atoms) v)
    (ap (λ (w : SolverView). w.asserted) v)
    (ap (λ (l : List Place). map mark_at l) c.push_reserved.ensures.items ∙ map-append mark_at i.marks.items (c.args.place ∷ []) ∙ ap (λ (w : SolverView). w.marks ++ m ∷ []) v)
    (ap (λ (w : SolverView). w.stuck) v)
    marked

pub explain-conflict-requires-clause-closed : goal.explain-conflict-requires-clause-closed
explain-conflict-requires-clause-closed g c =
    let p = c.args.problem.now in
    let s = c.args.self.now in
    let lit = c.args.lit in
    let at = c.requires.place in
    let fits = c.requires.fits in
    let start = working_start p s c.args.place fits c.requires.going at in
    let has = next_in s lit c.requires.lit in
    let held = c.hold_literal.new.self in
    let grown = c.hold_literal.ensures.grown in
    let closing = c.in-Some.closing in
    let shut : IsClosing p (lits_with s) held closing = c.in-Some.ensures.some (lits_with s) start has in
    shut.closed

pub explain-conflict-requires-clause-caused : goal.explain-conflict-requires-clause-caused
explain-conflict-requires-clause-caused g c =
    let p = c.args.problem.now in
    let s = c.args.self.now in
    let lit = c.args.lit in
    let at = c.requires.place in
    let fits = c.requires.fits in
    let start = working_start p s c.args.place fits c.requires.going at in
    let has = next_in s lit c.requires.lit in
    let held = c.hold_literal.new.self in
    let grown = c.hold_literal.ensures.grown in
    let closing = c.in-Some.closing in
    let shut : IsClosing p (lits_with s) held closing = c.in-Some.ensures.some (lits_with s) start has in
    (lits_with s, shut.caused, shut.cause)

pub returns-in_err-conflict-clause-fits : goal.returns-in_err-conflict-clause-fits
returns-in_err-conflict-clause-fits g c =
    let p = c.args.problem.now in
    let s = c.args.self.now in
    let lit = c.args.lit in
    let at = c.requires.place in
    let fits = c.requires.fits in
    let held = c.hold_literal.new.self in
    let grown = c.hold_literal.ensures.grown in
    let new = c.take_back.new.self in
    let m : Mark = mark_at c.args.place in
    let back = c.take_back.ensures in
    let cut : IsCutTo m held.froms new.froms = record { nodes = back.problem.0; kinds = back.problem.1; atoms = back.atoms } in
    ordering_back p s held new m fits at.local at.global at.atoms (at.long Local) (at.long Global) grown back.local back.global cut back.rest.0 back.rest.1 back.rest.2 back.rest.3

pub returns-clause-fits : goal.returns-clause-fits
returns-clause-fits g c =
    let p = c.args.problem.now in
    let s = c.args.self.now in
    let lit = c.args.lit in
    let at = c.requires.place in
    let fits = c.requires.fits in
    let held = c.hold_literal.new.self in
    let grown = c.hold_literal.ensures.grown in
    let new = c.take_back.new.self in
    let m : Mark = mark_at c.args.place in
    let back = c.take_back.ensures in
    let cut : IsCutTo m held.froms new.froms = record { nodes = back.problem.0; kinds = back.problem.1; atoms = back.atoms } in
    ordering_back p s held new m fits at.local at.global at.atoms (at.long Local) (at.long Global) grown back.local back.global cut back.rest.0 back.rest.1 back.rest.2 back.rest.3

pub returns-clause-found : goal.returns-clause-found
returns-clause-found g c =
    let p = c.args.problem.now in
    let s = c.args.self.now in
    let lit = c.args.lit in
    let at = c.requires.place in
    let fits = c.requires.fits in
    let start = working_start p s c.args.place fits c.requires.going at in
    let has = next_in s lit c.requires.lit in
    let held = c.hold_literal.new.self in
    let grown = c.hold_literal.ensures.grown in
    let closing = c.in-Some.closing in
    let shut : IsClosing p (lits_with s) held closing = c.in-Some.ensures.some (lits_with s) start has in
    lits_apart p s c.in_ok-conflict.field-0 fits (c.in_ok-conflict.ensures.explained (lits_with s) shut.caused shut.cause)
