use Rattle.std.proofs.Common.{◌≡◌, ◌∙◌, ◌++◌, ◌∷◌, [], ℕ, List, length, ap, sym, subst, arith}
use Rattle.std.specs.Prelude.{Some, slice_get}
use Rattle.std.proofs.lemmas.Option.{IfSome_then, slice_get_within}
use Rattle.dg_base.specs.declared.Lit.{Lit}
use Rattle.cycle_detect.proofs.Searching.{link_smaller}
use Rattle.cycle_detect.specs.Parts.{EdgesView, IsLastInto}
use Rattle.order_solver.specs.Ordering.{SolverView}
use Rattle.order_solver.specs.Working.{IsWorking, IsNext}
use Rattle.order_solver.proofs.Grown.{are_grown_refl, are_grown_then}
use Rattle.order_solver.proofs.Working.{none_of, codes_of, walking_start, walking_next, walking_more, walking_done}
use Rattle.order_solver.proofs.solver.OrderSolver.hold_literal.Goals as goal

pub loop-next-init : goal.loop-next-init
loop-next-init g c =
    let p = c.args.problem.now in
    let s = c.args.self.now in
    let lit = c.args.lit in
    let last = subst (λ (z : List (ℕ × ℕ)). IsLastInto z lit.0 (length z) c.last_into-next.result) (ap (λ (w : SolverView). w.atoms.list) c.self.view_is) c.last_into-next.ensures in
    walking_start p lit c.last_into-next.result s (are_grown_refl s) c.requires.atoms c.requires.free last

pub hold_atom-closing-requires : goal.hold_atom-closing-requires
hold_atom-closing-requires g c =
    let p = c.args.problem.now in
    let s = c.args.self.now in
    let lit = c.args.lit in
    let now = c.loop-next.self in
    let was = c.loop-next.invariant in
    let next = c.loop-next.next in
    let id = c.in-Some.atom in
    let ready = c.requires.working in
    (ready.0, was.working ready.0 ready.1 ready.2, walking_next p ready.0 lit id next s now was c.in-Some.is ready.2)

pub returns-then-is_some-clause-grown : goal.returns-then-is_some-clause-grown
returns-then-is_some-clause-grown g c = are_grown_then c.args.self.now c.loop-next.self c.hold_atom-closing.new.self c.loop-next.invariant.grown c.hold_atom-closing.ensures.grown

pub returns-then-is_some-clause-some : goal.returns-then-is_some-clause-some
returns-then-is_some-clause-some g c =
    let p = c.args.problem.now in
    let s = c.args.self.now in
    let lit = c.args.lit in
    let now = c.loop-next.self in
    let was = c.loop-next.invariant in
    let next = c.loop-next.next in
    let id = c.in-Some.atom in
    IfSome_then c.hold_atom-closing.result c.hold_atom-closing.ensures.some (λ closing shut lits is has. shut lits (was.working lits is has) (walking_next p lits lit id next s now was c.in-Some.is has))

pub before-next-requires : goal.before-next-requires
before-next-requires g c =
    let p = c.args.problem.now in
    let s = c.args.self.now in
    let lit = c.args.lit in
    let now = c.loop-next.self in
    let was = c.loop-next.invariant in
    let next = c.loop-next.next in
    let id = c.in-Some.atom in
    let l = was.link id c.in-Some.is in
    let codes = ap (λ (w : SolverView). w.atoms.list) c.self-in-Some.view_is ∙ ap (λ (z : EdgesView). z.list) c.hold_atom-closing.ensures.grown.atoms ∙ was.codes in
    let long = ap (λ (z : List (ℕ × ℕ)). length z) codes in
    let within = slice_get_within (codes_of p) id (l.0, lit.0) l.1 in
    omega (arith, long, within)

pub loop-next-smaller : goal.loop-next-smaller
loop-next-smaller g c =
    let p = c.args.problem.now in
    let s = c.args.self.now in
    let lit = c.args.lit in
    let now = c.loop-next.self in
    let was = c.loop-next.invariant in
    let next = c.loop-next.next in
    let id = c.in-Some.atom in
    let l = was.link id c.in-Some.is in
    let codes = ap (λ (w : SolverView). w.atoms.list) c.self-in-Some.view_is ∙ ap (λ (z : EdgesView). z.list) c.hold_atom-closing.ensures.grown.atoms ∙ was.codes in
    let told : (x y : ℕ) → slice_get (codes_of p) id ≡ Some (x, y) → IsLastInto (codes_of p) y id c.before-next.result = subst (λ (z : List (ℕ × ℕ)). (x y : ℕ) → slice_get z id ≡ Some (x, y) → IsLastInto z y id c.before-next.result) codes c.before-next.ensures in
    let last = told l.0 lit.0 l.1 in
    link_smaller (codes_of p) lit.0 id next c.before-next.result c.in-Some.is last

pub loop-next-preserved : goal.loop-next-preserved
loop-next-preserved g c =
    let p = c.args.problem.now in
    let s = c.args.self.now in
    let lit = c.args.lit in
    let now = c.loop-next.self in
    let was = c.loop-next.invariant in
    let next = c.loop-next.next in
    let id = c.in-Some.atom in
    let l = was.link id c.in-Some.is in
    let codes = ap (λ (w : SolverView). w.atoms.list) c.self-in-Some.view_is ∙ ap (λ (z : EdgesView). z.list) c.hold_atom-closing.ensures.grown.atoms ∙ was.codes in
    let told : (x y : ℕ) → slice_get (codes_of p) id ≡ Some (x, y) → IsLastInto (codes_of p) y id c.before-next.result = subst (λ (z : List (ℕ × ℕ)). (x y : ℕ) → slice_get z id ≡ Some (x, y) → IsLastInto z y id c.before-next.result) codes c.before-next.ensures in
    let last = told l.0 lit.0 l.1 in
    let new = c.hold_atom-closing.new.self in
    let held = c.hold_atom-closing.ensures in
    let gone = sym c.is_some.ensures ∙ c.if-is_some.false in
    let put = none_of c.hold_atom-closing.result (new.froms.true_atoms ≡ now.froms.true_atoms ++ id ∷ []) gone held.put in
    let works = none_of c.hold_atom-closing.result ((lits : List Lit) → IsWorking p lits now → IsNext p lits id now → IsWorking p lits new) gone held.none in
    walking_more p lit id next c.before-next.result s now new was c.in-Some.is held.grown put works last

pub returns-clause-all : goal.returns-clause-all
returns-clause-all g c = walking_done c.args.problem.now c.args.lit c.loop-next.next c.args.self.now c.loop-next.self c.loop-next.invariant c.in_default.is
