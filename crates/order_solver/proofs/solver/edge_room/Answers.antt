use Rattle.std.proofs.Common.{◌≡◌, ◌+◌, ◌<◌, ◌^◌, ℕ, List, Option, length, ap, ◌∙◌, subst, arith, get_or}
use Rattle.std.specs.Prelude.{Some, SomeIff, sum_by}
use Rattle.std.proofs.lemmas.List.{take_all}
use Rattle.std.proofs.lemmas.List.Sums.{sum_by_more}
use Rattle.cnf_problem.specs.declared.problem.Atom.{Atom}
use Rattle.order_solver.proofs.solver.edge_room.Goals as goal

abbrev own_of : Atom → ℕ
own_of a = length a.edges

summed : (o : Option ℕ) (P : Type 0) (v x : ℕ) → o ≡ Some x → SomeIff o P v → x ≡ v
summed o P v x e is = (subst (λ (z : Option ℕ). SomeIff z P v) e is).1

pub loop-atom-preserved : goal.loop-atom-preserved
loop-atom-preserved c =
    let p = c.args.problem.now in
    let atoms_are : c.as_slice-atom-items.result.now ≡ p.atoms = c.as_slice-atom-items.ensures in
    let count = ap (λ (l : List Atom). length l) atoms_are in
    let k = c.loop-atom.atom-index in
    let x = c.atom-item.result in
    let is : x ≡ get_or p.atoms k x = c.atom-item.is ∙ ap (λ (l : List Atom). get_or l k x) atoms_are in
    let own = ap own_of is in
    let h : k < length p.atoms = omega (arith, count, c.loop-atom-test.true) in
    let more = sum_by_more own_of p.atoms k x h in
    let sum = summed c.checked_add-in-loop-atom.result (c.loop-atom.room + c.len-in-loop-atom.result < 2 ^ 64) (c.loop-atom.room + c.len-in-loop-atom.result) c.in_ok-room-2.room c.in_ok-room-2.ensures.ok_part c.checked_add-in-loop-atom.ensures in
    omega (arith, sum, more, own, c.len-in-loop-atom.ensures, c.loop-atom.invariant)

pub returns : goal.returns
returns c =
    let p = c.args.problem.now in
    let count = ap (λ (l : List Atom). length l) c.as_slice-atom-items.ensures in
    let all = ap (λ (l : List Atom). sum_by own_of l) (take_all c.loop-atom.atom-index p.atoms (omega (arith, count, c.loop-atom-test.false))) in
    omega (arith, c.loop-atom.invariant, all, c.in-Ok.ensures.1)
