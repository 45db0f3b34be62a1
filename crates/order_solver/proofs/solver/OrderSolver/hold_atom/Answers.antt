use Rattle.std.proofs.Common.{◌≡◌, ◌∙◌, List, sym}
use Rattle.std.specs.Prelude.{Some, Contains, slice_get}
use Rattle.std.proofs.lemmas.Option.{IfSome_then}
use Rattle.dg_base.specs.declared.Lit.{Lit}
use Rattle.cnf_problem.specs.declared.problem.Atom.{Atom}
use Rattle.cnf_problem.specs.declared.problem.Edge.{Edge}
use Rattle.cnf_problem.specs.declared.problem.Problem.{Problem}
use Rattle.cycle_detect.specs.Orders.{Held}
use Rattle.order_solver.specs.Ordering.{own_at}
use Rattle.order_solver.specs.Parts.{graph_in}
use Rattle.order_solver.specs.Working.{IsWorking, IsNext, IsOwnHeld}
use Rattle.order_solver.proofs.Grown.{are_grown_then, own_grown}
use Rattle.order_solver.proofs.Working.{none_of, none_then, own_room, own_held, own_closing}
use Rattle.order_solver.proofs.solver.OrderSolver.hold_atom.Goals as goal

pub hold_own-closing-requires-clause-room : goal.hold_own-closing-requires-clause-room
hold_own-closing-requires-clause-room g c = λ h. own_room c.args.problem.now c.requires.0 c.args.atom c.args.self.now h c.requires.1 c.requires.2

pub returns-then-is_some-clause-some : goal.returns-then-is_some-clause-some
returns-then-is_some-clause-some g c =
    let p = c.args.problem.now in
    let s = c.args.self.now in
    let a = c.args.atom in
    let told = c.hold_own-closing.ensures in
    IfSome_then c.hold_own-closing.result told.some (λ closing own lits is next. own_closing p lits a (own_at p.atoms a) s c.hold_own-closing.new.self closing is next told.extended own)

pub hold_derived-requires : goal.hold_derived-requires
hold_derived-requires g c =
    let p = c.args.problem.now in
    let s = c.args.self.now in
    let a = c.args.atom in
    let mid = c.hold_own-closing.new.self in
    let told = c.hold_own-closing.ensures in
    let own = none_of c.hold_own-closing.result ((x : Atom) (e : Edge) → slice_get p.atoms a ≡ Some x → Contains x.edges e → Held (graph_in mid e.graph).edges e.from e.to) (sym c.is_some.ensures ∙ c.if-is_some.false) told.none in
    (p, (c.requires.0, own_held p c.requires.0 a s mid c.requires.1 c.requires.2 told.extended told.rest own))

pub returns-clause-grown : goal.returns-clause-grown
returns-clause-grown g c =
    let p = c.args.problem.now in
    let s = c.args.self.now in
    let a = c.args.atom in
    let mid = c.hold_own-closing.new.self in
    let told = c.hold_own-closing.ensures in
    are_grown_then s mid c.hold_derived.new.self (own_grown p a (own_at p.atoms a) s mid told.extended told.rest) c.hold_derived.ensures.grown

pub returns-clause-none : goal.returns-clause-none
returns-clause-none g c =
    let p = c.args.problem.now in
    let s = c.args.self.now in
    let a = c.args.atom in
    let mid = c.hold_own-closing.new.self in
    let told = c.hold_own-closing.ensures in
    let own = none_of c.hold_own-closing.result ((x : Atom) (e : Edge) → slice_get p.atoms a ≡ Some x → Contains x.edges e → Held (graph_in mid e.graph).edges e.from e.to) (sym c.is_some.ensures ∙ c.if-is_some.false) told.none in
    let new = c.hold_derived.new.self in
    none_then c.hold_derived.result ((q : Problem) (lits : List Lit) → IsOwnHeld q lits a mid → IsWorking q lits new) ((lits : List Lit) → IsWorking p lits s → IsNext p lits a s → IsWorking p lits new) c.hold_derived.ensures.none (λ works lits is next. works p lits (own_held p lits a s mid is next told.extended told.rest own))

pub returns-clause-some : goal.returns-clause-some
returns-clause-some g c =
    let p = c.args.problem.now in
    let s = c.args.self.now in
    let a = c.args.atom in
    let mid = c.hold_own-closing.new.self in
    let told = c.hold_own-closing.ensures in
    let own = none_of c.hold_own-closing.result ((x : Atom) (e : Edge) → slice_get p.atoms a ≡ Some x → Contains x.edges e → Held (graph_in mid e.graph).edges e.from e.to) (sym c.is_some.ensures ∙ c.if-is_some.false) told.none in
    IfSome_then c.hold_derived.result c.hold_derived.ensures.some (λ closing shut lits is next. shut p lits (own_held p lits a s mid is next told.extended told.rest own))
