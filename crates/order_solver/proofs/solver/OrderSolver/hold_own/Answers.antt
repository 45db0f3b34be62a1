use Rattle.std.proofs.Common.{◌≡◌, ◌<◌, ◌+◌, ◌∙◌, ◌++◌, ◌∷◌, [], inl, inr, ℕ, List, take, length, get_or, refl, ap, sym, subst, arith, true, false, Bool}
use Rattle.std.specs.Prelude.{Some, Contains, slice_get}
use Rattle.std.proofs.lemmas.List.{take_all, take_more}
use Rattle.std.proofs.lemmas.Option.{slice_get_read, slice_get-get_or}
use Rattle.dg_base.proofs.Lists.{one_answer, contains_nothing, contains_cases, contains_place}
use Rattle.cycle_detect.proofs.Counting.{contains_either}
use Rattle.cycle_detect.specs.Orders.{Held, IsClosed}
use Rattle.cnf_problem.specs.declared.problem.Graph.{Graph}
use Rattle.cnf_problem.specs.declared.problem.Graph.TheVariants.{Local}
use Rattle.cnf_problem.specs.declared.problem.Edge.{Edge}
use Rattle.cnf_problem.specs.declared.problem.Atom.{Atom}
use Rattle.order_solver.specs.declared.caused.Cause.TheVariants.{Own}
use Rattle.order_solver.specs.Ordering.{own_at, SolverView}
use Rattle.order_solver.specs.Parts.{graph_in, IsExtended, IsRest, IsTried}
use Rattle.order_solver.proofs.Growing.{own_is, tried_extended, extended_more, tried_keeps, tried_held}
use Rattle.order_solver.proofs.solver.OrderSolver.hold_own.Goals as goal

pub closes-requires-clause-room : goal.closes-requires-clause-room
closes-requires-clause-room g c =
    let p = c.args.problem.now in
    let a = c.args.atom in
    let x = c.index-as_slice-atom.result in
    let at : slice_get p.atoms a ≡ Some x = slice_get_read p.atoms (length p.atoms) a x refl c.requires.atom (c.index-as_slice-atom.is ∙ ap (λ (l : List Atom). get_or l a x) c.as_slice.ensures) in
    let items = c.as_slice-edge-items.result.now in
    let items_are : items ≡ x.edges = c.as_slice-edge-items.ensures ∙ ap (λ (z : Atom). z.edges) (sym c.index-as_slice-atom.is) in
    let k = c.loop-edge.edge-index in
    let high : k < length items = omega (arith, c.loop-edge-test.true) in
    let e : Edge = get_or items k (record { graph = Local; from = 0; to = 0 }) in
    let inside : Contains x.edges e = subst (λ (l : List Edge). Contains l e) items_are (contains_place items k e (slice_get-get_or items k (record { graph = Local; from = 0; to = 0 }) high)) in
    let count = ap (λ (l : List Edge). length l) items_are in
    let own = own_is p.atoms a x at in
    let is = c.loop-edge.invariant.extended e.graph in
    omega (arith, is.few, is.room, c.requires.room e.graph, own, count, high)

pub returns-then-closes-clause-extended : goal.returns-then-closes-clause-extended
returns-then-closes-clause-extended g c = λ h.
    let p = c.args.problem.now in
    let a = c.args.atom in
    let x = c.index-as_slice-atom.result in
    let at : slice_get p.atoms a ≡ Some x = slice_get_read p.atoms (length p.atoms) a x refl c.requires.atom (c.index-as_slice-atom.is ∙ ap (λ (l : List Atom). get_or l a x) c.as_slice.ensures) in
    let items = c.as_slice-edge-items.result.now in
    let items_are : items ≡ x.edges = c.as_slice-edge-items.ensures ∙ ap (λ (z : Atom). z.edges) (sym c.index-as_slice-atom.is) in
    let k = c.loop-edge.edge-index in
    let high : k < length items = omega (arith, c.loop-edge-test.true) in
    let e : Edge = get_or items k (record { graph = Local; from = 0; to = 0 }) in
    let inside : Contains x.edges e = subst (λ (l : List Edge). Contains l e) items_are (contains_place items k e (slice_get-get_or items k (record { graph = Local; from = 0; to = 0 }) high)) in
    let count = ap (λ (l : List Edge). length l) items_are in
    let own = own_is p.atoms a x at in
    extended_more p a (k + 1) (own_at p.atoms a) h (graph_in c.args.self.now h) (graph_in c.closes.new.self h) (omega (arith, own, count, high)) (tried_extended p a k x e c.args.self.now c.loop-edge.self c.closes.new.self c.closes.result at inside c.loop-edge.invariant.extended c.closes.ensures.tried h)

pub returns-then-closes-clause-some : goal.returns-then-closes-clause-some
returns-then-closes-clause-some g c =
    let p = c.args.problem.now in
    let a = c.args.atom in
    let x = c.index-as_slice-atom.result in
    let at : slice_get p.atoms a ≡ Some x = slice_get_read p.atoms (length p.atoms) a x refl c.requires.atom (c.index-as_slice-atom.is ∙ ap (λ (l : List Atom). get_or l a x) c.as_slice.ensures) in
    let items = c.as_slice-edge-items.result.now in
    let items_are : items ≡ x.edges = c.as_slice-edge-items.ensures ∙ ap (λ (z : Atom). z.edges) (sym c.index-as_slice-atom.is) in
    let k = c.loop-edge.edge-index in
    let high : k < length items = omega (arith, c.loop-edge-test.true) in
    let e : Edge = get_or items k (record { graph = Local; from = 0; to = 0 }) in
    let inside : Contains x.edges e = subst (λ (l : List Edge). Contains l e) items_are (contains_place items k e (slice_get-get_or items k (record { graph = Local; from = 0; to = 0 }) high)) in
    let count = ap (λ (l : List Edge). length l) items_are in
    let own = own_is p.atoms a x at in
    let tried = c.closes.ensures.tried in
    let same = tried.same c.if-closes.true in
    record {
      cause = refl;
      own = λ y f. subst (λ (z : Atom). Contains z.edges e) (one_answer (slice_get p.atoms a) x y at f) inside;
      closed = subst (λ (l : List (ℕ × ℕ)). IsClosed l e.from e.to (graph_in c.closes.new.self e.graph).cycle) (sym same.edges) (tried.closed c.if-closes.true);
    }

pub loop-edge-preserved : goal.loop-edge-preserved
loop-edge-preserved g c =
    let p = c.args.problem.now in
    let a = c.args.atom in
    let x = c.index-as_slice-atom.result in
    let at : slice_get p.atoms a ≡ Some x = slice_get_read p.atoms (length p.atoms) a x refl c.requires.atom (c.index-as_slice-atom.is ∙ ap (λ (l : List Atom). get_or l a x) c.as_slice.ensures) in
    let items = c.as_slice-edge-items.result.now in
    let items_are : items ≡ x.edges = c.as_slice-edge-items.ensures ∙ ap (λ (z : Atom). z.edges) (sym c.index-as_slice-atom.is) in
    let k = c.loop-edge.edge-index in
    let high : k < length items = omega (arith, c.loop-edge-test.true) in
    let e : Edge = get_or items k (record { graph = Local; from = 0; to = 0 }) in
    let inside : Contains x.edges e = subst (λ (l : List Edge). Contains l e) items_are (contains_place items k e (slice_get-get_or items k (record { graph = Local; from = 0; to = 0 }) high)) in
    let count = ap (λ (l : List Edge). length l) items_are in
    let own = own_is p.atoms a x at in
    let tried : IsTried c.loop-edge.self e (Own a) false c.closes.new.self = subst (λ (b : Bool). IsTried c.loop-edge.self e (Own a) b c.closes.new.self) c.if-closes.false c.closes.ensures.tried in
    let was = c.loop-edge.invariant.rest in
    let now = tried.rest in
    record {
      extended = tried_extended p a k x e c.args.self.now c.loop-edge.self c.closes.new.self false at inside c.loop-edge.invariant.extended tried;
      rest = record { froms = now.froms ∙ was.froms; atoms = now.atoms ∙ was.atoms; asserted = now.asserted ∙ was.asserted; marks = now.marks ∙ was.marks; stuck = now.stuck ∙ was.stuck };
      acyclic = λ h none. c.closes.ensures.acyclic h (c.loop-edge.invariant.acyclic h none);
      held = λ f m. elim (contains_either (take k items) (e ∷ []) f (subst (λ (l : List Edge). Contains l f) (take_more items k (record { graph = Local; from = 0; to = 0 }) high) m)) [
        | inl old ↦ tried_keeps e f (Own a) c.loop-edge.self c.closes.new.self tried (c.loop-edge.invariant.held f old)
        | inr new ↦ elim (contains_cases e f [] new) [
          | inl same ↦ subst (λ (z : Edge). Held (graph_in c.closes.new.self z.graph).edges z.from z.to) (sym same) (tried_held e (Own a) c.loop-edge.self c.closes.new.self tried)
          | inr n ↦ absurd (contains_nothing f n)
        ]
      ];
    }

pub returns-clause-extended : goal.returns-clause-extended
returns-clause-extended g c = λ h.
    let p = c.args.problem.now in
    let a = c.args.atom in
    let x = c.index-as_slice-atom.result in
    let at : slice_get p.atoms a ≡ Some x = slice_get_read p.atoms (length p.atoms) a x refl c.requires.atom (c.index-as_slice-atom.is ∙ ap (λ (l : List Atom). get_or l a x) c.as_slice.ensures) in
    let items = c.as_slice-edge-items.result.now in
    let items_are : items ≡ x.edges = c.as_slice-edge-items.ensures ∙ ap (λ (z : Atom). z.edges) (sym c.index-as_slice-atom.is) in
    let k = c.loop-edge.edge-index in
    let count = ap (λ (l : List Edge). length l) items_are in
    extended_more p a k (own_at p.atoms a) h (graph_in c.args.self.now h) (graph_in c.loop-edge.self h) (omega (arith, own_is p.atoms a x at, count, c.loop-edge.auto.edge-index-end)) (c.loop-edge.invariant.extended h)

pub returns-clause-none : goal.returns-clause-none
returns-clause-none g c = λ y e f m.
    let p = c.args.problem.now in
    let a = c.args.atom in
    let x = c.index-as_slice-atom.result in
    let at : slice_get p.atoms a ≡ Some x = slice_get_read p.atoms (length p.atoms) a x refl c.requires.atom (c.index-as_slice-atom.is ∙ ap (λ (l : List Atom). get_or l a x) c.as_slice.ensures) in
    let items = c.as_slice-edge-items.result.now in
    let items_are : items ≡ x.edges = c.as_slice-edge-items.ensures ∙ ap (λ (z : Atom). z.edges) (sym c.index-as_slice-atom.is) in
    let k = c.loop-edge.edge-index in
    let in_x : Contains x.edges e = subst (λ (z : Atom). Contains z.edges e) (one_answer (slice_get p.atoms a) y x f at) m in
    let in_items : Contains items e = subst (λ (l : List Edge). Contains l e) (sym items_are) in_x in
    c.loop-edge.invariant.held e (subst (λ (l : List Edge). Contains l e) (sym (take_all k items (omega (arith, c.loop-edge-test.false)))) in_items)

pub returns-then-closes-clause-acyclic : goal.returns-then-closes-clause-acyclic
returns-then-closes-clause-acyclic g c = λ h none. c.closes.ensures.acyclic h (c.loop-edge.invariant.acyclic h none)
