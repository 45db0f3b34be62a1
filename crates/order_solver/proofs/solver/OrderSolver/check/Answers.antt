use Rattle.std.proofs.Common.{◌≡◌, ◌<◌, ◌+◌, ◌∙◌, ℕ, List, length, refl, ap, sym, subst, true, arith}
use Rattle.std.specs.Prelude.{Some, MatchOption, slice_get}
use Rattle.std.proofs.lemmas.List.{length-map}
use Rattle.std.proofs.lemmas.Option.{slice_get_read}
use Rattle.dg_base.specs.declared.Lit.{Lit}
use Rattle.cnf_problem.specs.Chains.{AllFalse}
use Rattle.order_solver.specs.declared.solver.Place.{Place}
use Rattle.order_solver.specs.Ordering.{SolverView, Mark, IsAcyclic, IsCycleClause}
use Rattle.order_solver.proofs.Checking.{stuck_clause, all_acyclic}
use Rattle.order_solver.proofs.Looking.{long_both, acyclic_both}
use Rattle.order_solver.proofs.Working.{some_of}
use Rattle.order_solver.proofs.solver.OrderSolver.check.Goals as goal

abbrev mark_at : Place → Mark
mark_at m = record { local = m.local; global = m.global; atoms = m.atoms }

pub returns-then-self-clause-found : goal.returns-then-self-clause-found
returns-then-self-clause-found g c =
    let p = c.args.problem.now in
    let s = c.args.self.now in
    let stuck : s.stuck ≡ true = sym (ap (λ (w : SolverView). w.stuck) c.self.view_is) ∙ c.if-self.true in
    subst (λ (l : List Lit). IsCycleClause p l × AllFalse s.asserted l) (sym c.new.ensures) (stuck_clause p s c.requires.fits stuck)

pub work_in-requires-clause-lit : goal.work_in-requires-clause-lit
work_in-requires-clause-lit g c =
    let s = c.loop-alloc.self in
    let i = c.self-in-loop-alloc.inside in
    let v = c.self-in-loop-alloc.view_is in
    let lit = c.index-lit.result.now in
    let k = c.len-in-loop-alloc-2.result in
    let items = i.asserted.items in
    let long = i.marks.ok.0 in
    let all = i.asserted.ok.0 in
    let count = length-map i.marks.items mark_at in
    let marks = ap (λ (w : SolverView). length w.marks) v in
    let place : k ≡ length s.marks = omega (arith, c.len-in-loop-alloc-2.ensures, long, count, marks) in
    let within : k < length items = omega (arith, c.len-in-loop-alloc-2.ensures, c.len.ensures, c.len-in-loop-alloc.ensures, c.loop-alloc-test.true, all, long) in
    let at : slice_get items k ≡ Some lit = slice_get_read items (length items) k lit refl within c.index-lit.ensures in
    ap (λ (w : SolverView). slice_get w.asserted (length s.marks)) (sym v) ∙ ap (λ (n : ℕ). slice_get items n) (sym place) ∙ at

pub returns-then-is_some-clause-found : goal.returns-then-is_some-clause-found
returns-then-is_some-clause-found g c =
    let p = c.args.problem.now in
    let s = c.args.self.now in
    let now = c.loop-alloc.self in
    let o = c.in_ok-clause.clause in
    let here = some_of o (length c.work_in.new.self.marks ≡ length now.marks + 1) (IsAcyclic p s.asserted) (λ clause. IsCycleClause p clause × AllFalse now.asserted clause) (sym c.is_some.ensures ∙ c.if-is_some.true) c.in_ok-clause.ensures.found in
    subst (λ (l : List Lit). MatchOption o (IsAcyclic p s.asserted) (λ clause. IsCycleClause p clause × AllFalse l clause)) c.loop-alloc.invariant.asserted here

pub loop-alloc-preserved : goal.loop-alloc-preserved
loop-alloc-preserved g c =
    let new = c.work_in.new.self in
    let told = c.place-place-in-loop-alloc.ensures in
    let was = c.loop-alloc.invariant in
    record {
      fits = c.work_in.ensures.fits;
      place = record {
        local = told.local;
        global = told.global;
        atoms = told.atoms;
        derived = told.derived;
        long = long_both new told.local_long told.global_long;
        acyclic = acyclic_both new told.local_acyclic told.global_acyclic;
      };
      asserted = c.work_in.ensures.rest.0 ∙ was.asserted;
      going = c.work_in.ensures.rest.1 ∙ was.going;
    }

pub returns-clause-found : goal.returns-clause-found
returns-clause-found g c =
    let p = c.args.problem.now in
    let s = c.loop-alloc.self in
    let was = c.loop-alloc.invariant in
    let i = c.self-in-loop-alloc.inside in
    let v = c.self-in-loop-alloc.view_is in
    let long = i.marks.ok.0 in
    let all = i.asserted.ok.0 in
    let count = length-map i.marks.items mark_at in
    let marks = ap (λ (w : SolverView). length w.marks) v in
    let asserted = ap (λ (w : SolverView). length w.asserted) v in
    let worked : length s.marks ≡ length s.asserted = omega (arith, c.len.ensures, c.len-in-loop-alloc.ensures, c.loop-alloc-test.false, all, long, count, marks, asserted, was.fits.worked) in
    subst (λ (l : List Lit). IsAcyclic p l) was.asserted (all_acyclic p s c.loop-alloc.place was.fits was.going was.place worked)
