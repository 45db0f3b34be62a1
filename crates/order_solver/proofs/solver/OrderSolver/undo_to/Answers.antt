use Rattle.std.proofs.Common.{◌≡◌, ◌≤◌, ◌<◌, ℕ, List, map, take, length, refl, ap, sym, ◌∙◌, arith}
use Rattle.std.specs.Prelude.{Some, slice_get}
use Rattle.std.proofs.lemmas.List.{length-map, take-map}
use Rattle.std.proofs.lemmas.Option.{slice_get_read}
use Rattle.dg_base.proofs.Lists.{get_map}
use Rattle.dg_base.specs.declared.Lit.{Lit}
use Rattle.order_solver.specs.declared.solver.Place.{Place}
use Rattle.order_solver.specs.Ordering.{SolverView, Mark}
use Rattle.order_solver.proofs.Undoing.{IsCutTo, ordering_shorter, ordering_cut, ordering_as, cut_at}
use Rattle.order_solver.proofs.solver.OrderSolver.undo_to.Goals as goal

abbrev mark_at : Place → Mark
mark_at m = record { local = m.local; global = m.global; atoms = m.atoms }

pub returns-then-count-len-clause-fits : goal.returns-then-count-len-clause-fits
returns-then-count-len-clause-fits c = λ p is.
    let here = rw (← c.self.view_is) at is in
    let within = rw (← c.self.view_is) at c.requires.within in
    let long = c.self.inside.marks.ok.0 in
    let marks = length-map c.self.inside.marks.items mark_at in
    rw c.truncate.ensures.items (ordering_shorter p _ c.args.trail_length here (omega (arith, marks, long, c.len.ensures, c.if-count-len.true)) within)

pub returns-clause-fits : goal.returns-clause-fits
returns-clause-fits c = λ p is.
    let s = c.args.self.now in
    let n = c.args.trail_length in
    let place = c.index-place.result.now in
    let items = c.self.inside.marks.items in
    let long = c.self.inside.marks.ok.0 in
    let at_item = slice_get_read items (length items) n place refl (omega (arith, long, c.len.ensures, c.if-count-len.false)) c.index-place.ensures in
    let at : slice_get s.marks n ≡ Some (mark_at place) = rw (← c.self.view_is) (get_map mark_at items n place at_item) in
    let cut : IsCutTo (mark_at place) s.froms c.take_back.new.self.froms = record { nodes = c.take_back.ensures.problem.0; kinds = c.take_back.ensures.problem.1; atoms = c.take_back.ensures.atoms } in
    let fits = ordering_cut p s n (mark_at place) c.take_back.new.self.froms is at cut in
    let i = c.self-2.inside in
    let v = c.self-2.view_is in
    let asserted = ap (λ (w : SolverView). w.asserted) v ∙ c.take_back.ensures.rest.1 in
    let marks = ap (λ (w : SolverView). w.marks) v ∙ c.take_back.ensures.rest.2 in
    ordering_as p (cut_at s n (mark_at place) c.take_back.new.self.froms) i.local i.global i.froms i.atoms c.truncate-3.new.self.items (map mark_at c.truncate-2.new.self.items) i.stuck
    (ap (λ (w : SolverView). w.local) v ∙ c.take_back.ensures.local)
    (ap (λ (w : SolverView). w.global) v ∙ c.take_back.ensures.global)
    (ap (λ (w : SolverView). w.froms) v)
    (ap (λ (w : SolverView). w.atoms) v ∙ c.take_back.ensures.rest.0)
    (c.truncate-3.ensures.items ∙ ap (λ (l : List Lit). take n l) asserted)
    (ap (λ (l : List Place). map mark_at l) c.truncate-2.ensures.items ∙ sym (take-map mark_at n i.marks.items) ∙ ap (λ (l : List Mark). take n l) marks)
    (ap (λ (w : SolverView). w.stuck) v ∙ c.take_back.ensures.rest.3)
    fits
