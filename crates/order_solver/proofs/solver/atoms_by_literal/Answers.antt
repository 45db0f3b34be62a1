use Rattle.std.proofs.Common.{◌≡◌, ◌+◌, ◌<◌, ◌++◌, ◌∷◌, [], ℕ, List, map, take, length, ap, sym, ◌∙◌, subst, arith, get_or}
use Rattle.std.proofs.lemmas.List.{length-map, length-take, map-append, take_all, take_more}
use Rattle.cnf_problem.specs.declared.problem.Atom.{Atom}
use Rattle.cnf_problem.specs.Bounds.{IsAtomOver}
use Rattle.cycle_detect.specs.Parts.{EdgesView}
use Rattle.order_solver.proofs.solver.atoms_by_literal.Goals as goal

abbrev ends_of : Atom → ℕ × ℕ
ends_of a = (a.lit.0, a.lit.0)

pub push-requires-clause-from : goal.push-requires-clause-from
push-requires-clause-from c =
    let p = c.args.problem.now in
    let atoms_are : c.as_slice-atom-items.result.now ≡ p.atoms = c.as_slice-atom-items.ensures in
    let count = ap (λ (l : List Atom). length l) atoms_are in
    let k = c.loop-atom.atom-index in
    let x = c.atom-item.result in
    let is : x ≡ get_or p.atoms k x = c.atom-item.is ∙ ap (λ (l : List Atom). get_or l k x) atoms_are in
    let h : k < length p.atoms = omega (arith, count, c.loop-atom-test.true) in
    let over : IsAtomOver p.vars (length p.nodes) x = subst (IsAtomOver p.vars (length p.nodes)) (sym is) (p.graphs.each_atom k x h) in
    omega (arith, over.lit.1, c.loop-atom.invariant.codes)

pub push-requires-clause-to : goal.push-requires-clause-to
push-requires-clause-to c = push-requires-clause-from c

pub push-requires-clause-room : goal.push-requires-clause-room
push-requires-clause-room c =
    let p = c.args.problem.now in
    let atoms_are : c.as_slice-atom-items.result.now ≡ p.atoms = c.as_slice-atom-items.ensures in
    let count = ap (λ (l : List Atom). length l) atoms_are in
    let k = c.loop-atom.atom-index in
    let made = ap (λ (l : List (ℕ × ℕ)). length l) c.loop-atom.invariant.list in
    omega (arith, made, length-map (take k p.atoms) ends_of, length-take k p.atoms, c.loop-atom.invariant.limit, c.loop-atom-test.true, count)

pub loop-atom-preserved : goal.loop-atom-preserved
loop-atom-preserved c =
    let p = c.args.problem.now in
    let atoms_are : c.as_slice-atom-items.result.now ≡ p.atoms = c.as_slice-atom-items.ensures in
    let count = ap (λ (l : List Atom). length l) atoms_are in
    let k = c.loop-atom.atom-index in
    let x = c.atom-item.result in
    let is : x ≡ get_or p.atoms k x = c.atom-item.is ∙ ap (λ (l : List Atom). get_or l k x) atoms_are in
    let h : k < length p.atoms = omega (arith, count, c.loop-atom-test.true) in
    let more : map ends_of (take (k + 1) p.atoms) ≡ map ends_of (take k p.atoms) ++ ends_of x ∷ [] = ap (λ (l : List Atom). map ends_of l) (take_more p.atoms k x h) ∙ map-append ends_of (take k p.atoms) (get_or p.atoms k x ∷ []) ∙ ap (λ (y : Atom). map ends_of (take k p.atoms) ++ ends_of y ∷ []) (sym is) in
    record {
      codes = ap (λ (e : EdgesView). e.nodes) c.push.ensures ∙ c.loop-atom.invariant.codes;
      limit = ap (λ (e : EdgesView). e.limit) c.push.ensures ∙ c.loop-atom.invariant.limit;
      list = ap (λ (e : EdgesView). e.list) c.push.ensures ∙ ap (λ (l : List (ℕ × ℕ)). l ++ ends_of x ∷ []) c.loop-atom.invariant.list ∙ sym more;
    }

pub returns-clause-list : goal.returns-clause-list
returns-clause-list c =
    let p = c.args.problem.now in
    let count = ap (λ (l : List Atom). length l) c.as_slice-atom-items.ensures in
    c.loop-atom.invariant.list ∙ ap (λ (l : List Atom). map ends_of l) (take_all c.loop-atom.atom-index p.atoms (omega (arith, count, c.loop-atom-test.false)))
