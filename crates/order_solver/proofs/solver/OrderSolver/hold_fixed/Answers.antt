use Rattle.std.proofs.Common.{◌<◌, ◌∙◌, [], List, take, length, get_or, refl, ap, sym, subst, arith, true, false, Bool}
use Rattle.std.specs.Prelude.{Contains}
use Rattle.std.proofs.lemmas.List.{take_all, take_more, length-take}
use Rattle.std.proofs.lemmas.Option.{slice_get-get_or}
use Rattle.dg_base.proofs.Lists.{contains_place}
use Rattle.cnf_problem.specs.declared.problem.Graph.TheVariants.{Local}
use Rattle.cnf_problem.specs.declared.problem.Edge.{Edge}
use Rattle.cnf_problem.specs.Bounds.{IsBetween}
use Rattle.order_solver.specs.declared.caused.Cause.TheVariants.{Fixed}
use Rattle.order_solver.specs.Ordering.{SolverView}
use Rattle.order_solver.specs.Parts.{graph_in, IsTried}
use Rattle.order_solver.proofs.Cycles.{cause_within}
use Rattle.order_solver.proofs.Building.{HasFixed, room_fixed, fixed_none, fixed_tried, closed_ordering, whole_ordering}
use Rattle.order_solver.proofs.solver.OrderSolver.hold_fixed.Goals as goal

abbrev none : Edge
none = record { graph = Local; from = 0; to = 0 }

pub closes-requires-clause-from : goal.closes-requires-clause-from
closes-requires-clause-from g c =
    let p = c.args.problem.now in
    let items = c.as_slice-edge-items.result.now in
    let k = c.loop-edge.edge-index in
    let high : k < length items = omega (arith, c.loop-edge-test.true) in
    let e : Edge = get_or items k none in
    let inside : Contains p.fixed e = subst (λ (l : List Edge). Contains l e) c.as_slice-edge-items.ensures (contains_place items k e (slice_get-get_or items k none high)) in
    let between : IsBetween (length p.nodes) e = cause_within p [] e Fixed inside in
    omega (arith, between.0, (c.loop-edge.invariant.fixed e.graph).nodes, (c.requires.fresh.roomy e.graph).0)

pub closes-requires-clause-to : goal.closes-requires-clause-to
closes-requires-clause-to g c =
    let p = c.args.problem.now in
    let items = c.as_slice-edge-items.result.now in
    let k = c.loop-edge.edge-index in
    let high : k < length items = omega (arith, c.loop-edge-test.true) in
    let e : Edge = get_or items k none in
    let inside : Contains p.fixed e = subst (λ (l : List Edge). Contains l e) c.as_slice-edge-items.ensures (contains_place items k e (slice_get-get_or items k none high)) in
    let between : IsBetween (length p.nodes) e = cause_within p [] e Fixed inside in
    omega (arith, between.1, (c.loop-edge.invariant.fixed e.graph).nodes, (c.requires.fresh.roomy e.graph).0)

pub closes-requires-clause-room : goal.closes-requires-clause-room
closes-requires-clause-room g c =
    let p = c.args.problem.now in
    let old = c.args.self.now in
    let items = c.as_slice-edge-items.result.now in
    let k = c.loop-edge.edge-index in
    let high : k < length items = omega (arith, c.loop-edge-test.true) in
    let e : Edge = get_or items k none in
    let is = c.loop-edge.invariant.fixed e.graph in
    let room = room_fixed p old.froms (graph_in old e.graph) (c.requires.fresh.roomy e.graph) in
    let count = ap (λ (l : List Edge). length l) c.as_slice-edge-items.ensures in
    omega (arith, is.few, is.room, room, count, length-take k items, high)

pub loop-edge-init : goal.loop-edge-init
loop-edge-init g c = record {
  fixed = λ h. fixed_none c.args.problem.now c.args.self.now h c.requires.fresh;
  rest = record { froms = refl; atoms = refl; asserted = refl; marks = refl; stuck = refl };
}

pub loop-edge-preserved : goal.loop-edge-preserved
loop-edge-preserved g c =
    let p = c.args.problem.now in
    let old = c.args.self.now in
    let items = c.as_slice-edge-items.result.now in
    let k = c.loop-edge.edge-index in
    let high : k < length items = omega (arith, c.loop-edge-test.true) in
    let e : Edge = get_or items k none in
    let inside : Contains p.fixed e = subst (λ (l : List Edge). Contains l e) c.as_slice-edge-items.ensures (contains_place items k e (slice_get-get_or items k none high)) in
    let tried : IsTried c.loop-edge.self e Fixed false c.closes.new.self = subst (λ (b : Bool). IsTried c.loop-edge.self e Fixed b c.closes.new.self) c.if-closes.false c.closes.ensures.tried in
    let was = c.loop-edge.invariant.rest in
    let now = tried.rest in
    record {
      fixed = λ h. subst (λ (l : List Edge). HasFixed p l h (graph_in old h) (graph_in c.closes.new.self h)) (sym (take_more items k none high)) (fixed_tried p (take k items) e old c.loop-edge.self c.closes.new.self inside c.loop-edge.invariant.fixed tried h);
      rest = record { froms = now.froms ∙ was.froms; atoms = now.atoms ∙ was.atoms; asserted = now.asserted ∙ was.asserted; marks = now.marks ∙ was.marks; stuck = now.stuck ∙ was.stuck };
    }

pub returns-then-closes-clause-fits : goal.returns-then-closes-clause-fits
returns-then-closes-clause-fits g c =
    let p = c.args.problem.now in
    let items = c.as_slice-edge-items.result.now in
    let k = c.loop-edge.edge-index in
    let high : k < length items = omega (arith, c.loop-edge-test.true) in
    let e : Edge = get_or items k none in
    let inside : Contains p.fixed e = subst (λ (l : List Edge). Contains l e) c.as_slice-edge-items.ensures (contains_place items k e (slice_get-get_or items k none high)) in
    let tried : IsTried c.loop-edge.self e Fixed true c.closes.new.self = subst (λ (b : Bool). IsTried c.loop-edge.self e Fixed b c.closes.new.self) c.if-closes.true c.closes.ensures.tried in
    let now = rw (← c.self.view_is) at tried in
    closed_ordering p (take k items) e c.args.self.now c.loop-edge.self _ c.requires.fresh inside c.loop-edge.invariant.fixed c.loop-edge.invariant.rest now

pub returns-then-closes-clause-asserted : goal.returns-then-closes-clause-asserted
returns-then-closes-clause-asserted g c = ap (λ (w : SolverView). w.asserted) c.self.view_is ∙ c.closes.ensures.tried.rest.asserted ∙ c.loop-edge.invariant.rest.asserted ∙ c.requires.fresh.asserted

pub returns-clause-fits : goal.returns-clause-fits
returns-clause-fits g c =
    let p = c.args.problem.now in
    let old = c.args.self.now in
    let items = c.as_slice-edge-items.result.now in
    let k = c.loop-edge.edge-index in
    let all = take_all k items (omega (arith, c.loop-edge-test.false)) ∙ c.as_slice-edge-items.ensures in
    whole_ordering p old c.loop-edge.self c.requires.fresh (λ h. subst (λ (l : List Edge). HasFixed p l h (graph_in old h) (graph_in c.loop-edge.self h)) all (c.loop-edge.invariant.fixed h)) c.loop-edge.invariant.rest

pub returns-clause-asserted : goal.returns-clause-asserted
returns-clause-asserted g c = c.loop-edge.invariant.rest.asserted ∙ c.requires.fresh.asserted
