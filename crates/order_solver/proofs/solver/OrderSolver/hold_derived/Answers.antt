use Rattle.std.proofs.Common.{◌≡◌, ◌<◌, ◌∙◌, List, length, map, get_or, ap, sym, subst, arith, true, false, Bool}
use Rattle.std.specs.Prelude.{Some, Contains, slice_get}
use Rattle.std.proofs.lemmas.Option.{slice_get-get_or}
use Rattle.dg_base.proofs.Lists.{contains_place}
use Rattle.cnf_problem.specs.declared.problem.Graph.TheVariants.{Local}
use Rattle.from_read.specs.declared.edge_set.DerivedEdge.{DerivedEdge}
use Rattle.from_read.specs.Derivations.{FromReadView}
use Rattle.order_solver.specs.declared.caused.Cause.TheVariants.{Pair}
use Rattle.order_solver.specs.declared.solver.Place.{Place}
use Rattle.order_solver.specs.Ordering.{SolverView, Mark}
use Rattle.order_solver.specs.Parts.{IsTried}
use Rattle.order_solver.proofs.Deriving.{deriving_start, deriving_within, deriving_room, deriving_put, deriving_shut, deriving_done}
use Rattle.order_solver.proofs.Grown.{first_part, tried_grown}
use Rattle.order_solver.proofs.solver.OrderSolver.hold_derived.Goals as goal

abbrev mark_at : Place → Mark
mark_at m = record { local = m.local; global = m.global; atoms = m.atoms }

pub loop-i-init : goal.loop-i-init
loop-i-init g c =
    let s = c.args.self.now in
    let v = c.self.view_is in
    let i = c.self.inside in
    let end_is = c.derived-i-end.ensures.items in
    record {
      walk = deriving_start c.args.atom (length c.derived-before.result.now) s (record { local = i.local; global = i.global; froms = c.on_true.new.self; atoms = i.atoms; asserted = i.asserted.items; marks = map mark_at i.marks.items; stuck = i.stuck }) i.froms
          (ap (λ (w : SolverView). w.froms) v)
          (ap (λ (l : List DerivedEdge). length l) c.derived-before.ensures.items)
          (ap (λ (w : SolverView). w.local) v)
          (ap (λ (w : SolverView). w.global) v)
          (ap (λ (w : SolverView). w.atoms) v)
          (ap (λ (w : SolverView). w.asserted) v)
          (ap (λ (w : SolverView). w.marks) v)
          (ap (λ (w : SolverView). w.stuck) v)
          c.on_true.ensures.problem.0 c.on_true.ensures.problem.1 c.on_true.ensures.atoms c.on_true.ensures.older c.on_true.ensures.derived;
      end = ap (λ (l : List DerivedEdge). length l) end_is;
    }

pub bounds-derived-i : goal.bounds-derived-i
bounds-derived-i g c =
    let items_are = c.derived.ensures.items ∙ ap (λ (w : SolverView). w.froms.derived) c.self-in-loop-i.view_is in
    let long = ap (λ (l : List DerivedEdge). length l) items_are in
    omega (arith, long, c.loop-i.invariant.end, c.loop-i-test.true)

pub closes-requires-clause-from : goal.closes-requires-clause-from
closes-requires-clause-from g c =
    let items = c.derived.result.now in
    let i = c.loop-i.i in
    let was = c.loop-i.invariant in
    let items_are : items ≡ c.loop-i.self.froms.derived = c.derived.ensures.items ∙ ap (λ (w : SolverView). w.froms.derived) c.self-in-loop-i.view_is in
    let long = ap (λ (l : List DerivedEdge). length l) items_are in
    let none : DerivedEdge = record { edge = record { graph = Local; from = 0; to = 0 }; read_from = 0; write_order = 0 } in
    let high : i < length items = omega (arith, long, was.end, c.loop-i-test.true) in
    let d : DerivedEdge = get_or items i none in
    let at : slice_get c.loop-i.self.froms.derived i ≡ Some d = subst (λ (l : List DerivedEdge). slice_get l i ≡ Some d) items_are (slice_get-get_or items i none high) in
    let inside : Contains c.loop-i.self.froms.derived d = contains_place c.loop-i.self.froms.derived i d at in
    let ready = c.requires in
    (deriving_within ready.0 ready.1.0 c.args.atom i c.args.self.now c.loop-i.self d ready.1.1 was.walk inside).0

pub closes-requires-clause-to : goal.closes-requires-clause-to
closes-requires-clause-to g c =
    let items = c.derived.result.now in
    let i = c.loop-i.i in
    let was = c.loop-i.invariant in
    let items_are : items ≡ c.loop-i.self.froms.derived = c.derived.ensures.items ∙ ap (λ (w : SolverView). w.froms.derived) c.self-in-loop-i.view_is in
    let long = ap (λ (l : List DerivedEdge). length l) items_are in
    let none : DerivedEdge = record { edge = record { graph = Local; from = 0; to = 0 }; read_from = 0; write_order = 0 } in
    let high : i < length items = omega (arith, long, was.end, c.loop-i-test.true) in
    let d : DerivedEdge = get_or items i none in
    let at : slice_get c.loop-i.self.froms.derived i ≡ Some d = subst (λ (l : List DerivedEdge). slice_get l i ≡ Some d) items_are (slice_get-get_or items i none high) in
    let inside : Contains c.loop-i.self.froms.derived d = contains_place c.loop-i.self.froms.derived i d at in
    let ready = c.requires in
    (deriving_within ready.0 ready.1.0 c.args.atom i c.args.self.now c.loop-i.self d ready.1.1 was.walk inside).1

pub closes-requires-clause-room : goal.closes-requires-clause-room
closes-requires-clause-room g c =
    let items = c.derived.result.now in
    let i = c.loop-i.i in
    let was = c.loop-i.invariant in
    let items_are : items ≡ c.loop-i.self.froms.derived = c.derived.ensures.items ∙ ap (λ (w : SolverView). w.froms.derived) c.self-in-loop-i.view_is in
    let long = ap (λ (l : List DerivedEdge). length l) items_are in
    let none : DerivedEdge = record { edge = record { graph = Local; from = 0; to = 0 }; read_from = 0; write_order = 0 } in
    let high : i < length items = omega (arith, long, was.end, c.loop-i-test.true) in
    let d : DerivedEdge = get_or items i none in
    let at : slice_get c.loop-i.self.froms.derived i ≡ Some d = subst (λ (l : List DerivedEdge). slice_get l i ≡ Some d) items_are (slice_get-get_or items i none high) in
    let inside : Contains c.loop-i.self.froms.derived d = contains_place c.loop-i.self.froms.derived i d at in
    let ready = c.requires in
    deriving_room ready.0 ready.1.0 c.args.atom i c.args.self.now c.loop-i.self d.edge.graph ready.1.1 was.walk (omega (arith, was.end, c.loop-i-test.true))

pub returns-then-closes-clause-grown : goal.returns-then-closes-clause-grown
returns-then-closes-clause-grown g c =
    let items = c.derived.result.now in
    let i = c.loop-i.i in
    let was = c.loop-i.invariant in
    let items_are : items ≡ c.loop-i.self.froms.derived = c.derived.ensures.items ∙ ap (λ (w : SolverView). w.froms.derived) c.self-in-loop-i.view_is in
    let long = ap (λ (l : List DerivedEdge). length l) items_are in
    let none : DerivedEdge = record { edge = record { graph = Local; from = 0; to = 0 }; read_from = 0; write_order = 0 } in
    let high : i < length items = omega (arith, long, was.end, c.loop-i-test.true) in
    let d : DerivedEdge = get_or items i none in
    let at : slice_get c.loop-i.self.froms.derived i ≡ Some d = subst (λ (l : List DerivedEdge). slice_get l i ≡ Some d) items_are (slice_get-get_or items i none high) in
    let inside : Contains c.loop-i.self.froms.derived d = contains_place c.loop-i.self.froms.derived i d at in
    tried_grown d.edge (Pair d.read_from d.write_order) c.closes.result c.args.self.now c.loop-i.self c.closes.new.self was.walk.grown c.closes.ensures.tried

pub returns-then-closes-clause-some : goal.returns-then-closes-clause-some
returns-then-closes-clause-some g c =
    let items = c.derived.result.now in
    let i = c.loop-i.i in
    let was = c.loop-i.invariant in
    let items_are : items ≡ c.loop-i.self.froms.derived = c.derived.ensures.items ∙ ap (λ (w : SolverView). w.froms.derived) c.self-in-loop-i.view_is in
    let long = ap (λ (l : List DerivedEdge). length l) items_are in
    let none : DerivedEdge = record { edge = record { graph = Local; from = 0; to = 0 }; read_from = 0; write_order = 0 } in
    let high : i < length items = omega (arith, long, was.end, c.loop-i-test.true) in
    let d : DerivedEdge = get_or items i none in
    let at : slice_get c.loop-i.self.froms.derived i ≡ Some d = subst (λ (l : List DerivedEdge). slice_get l i ≡ Some d) items_are (slice_get-get_or items i none high) in
    let inside : Contains c.loop-i.self.froms.derived d = contains_place c.loop-i.self.froms.derived i d at in
    let tried : IsTried c.loop-i.self d.edge (Pair d.read_from d.write_order) true c.closes.new.self = subst (λ (b : Bool). IsTried c.loop-i.self d.edge (Pair d.read_from d.write_order) b c.closes.new.self) c.if-closes.true c.closes.ensures.tried in
    λ p lits own. deriving_shut p lits c.args.atom i c.args.self.now c.loop-i.self c.closes.new.self d own was.walk inside tried

pub loop-i-preserved : goal.loop-i-preserved
loop-i-preserved g c =
    let items = c.derived.result.now in
    let i = c.loop-i.i in
    let was = c.loop-i.invariant in
    let items_are : items ≡ c.loop-i.self.froms.derived = c.derived.ensures.items ∙ ap (λ (w : SolverView). w.froms.derived) c.self-in-loop-i.view_is in
    let long = ap (λ (l : List DerivedEdge). length l) items_are in
    let none : DerivedEdge = record { edge = record { graph = Local; from = 0; to = 0 }; read_from = 0; write_order = 0 } in
    let high : i < length items = omega (arith, long, was.end, c.loop-i-test.true) in
    let d : DerivedEdge = get_or items i none in
    let at : slice_get c.loop-i.self.froms.derived i ≡ Some d = subst (λ (l : List DerivedEdge). slice_get l i ≡ Some d) items_are (slice_get-get_or items i none high) in
    let inside : Contains c.loop-i.self.froms.derived d = contains_place c.loop-i.self.froms.derived i d at in
    let tried : IsTried c.loop-i.self d.edge (Pair d.read_from d.write_order) false c.closes.new.self = subst (λ (b : Bool). IsTried c.loop-i.self d.edge (Pair d.read_from d.write_order) b c.closes.new.self) c.if-closes.false c.closes.ensures.tried in
    record {
      walk = deriving_put c.args.atom i c.args.self.now c.loop-i.self c.closes.new.self d was.walk at tried;
      end = was.end ∙ ap (λ (f : FromReadView). length f.derived) (sym tried.rest.froms);
    }

pub returns-clause-none : goal.returns-clause-none
returns-clause-none g c = λ p lits own.
    let was = c.loop-i.invariant in
    let start = ap (λ (l : List DerivedEdge). length l) (c.derived-before.ensures.items ∙ ap (λ (w : SolverView). w.froms.derived) c.self.view_is) in
    let all : c.loop-i.i ≡ length c.loop-i.self.froms.derived = omega (arith, start, was.end, c.loop-i-test.false, c.loop-i.auto.i-end, first_part c.args.self.now.froms.derived c.loop-i.self.froms.derived was.walk.older) in
    deriving_done p lits c.args.atom c.loop-i.i c.args.self.now c.loop-i.self own was.walk all
