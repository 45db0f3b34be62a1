use Rattle.std.proofs.Common.{List, take, subst, arith, rules}
use Rattle.std.specs.Prelude.{All}
use Rattle.std.proofs.lemmas.List.{take_all}
use Rattle.cnf_problem.specs.Bounds.{IsAtomOver}
use Rattle.solver_tests.proofs.Driving.{all_more}
use Rattle.solver_tests.proofs.given.are_atoms.Goals as goal

pub loop-atom-preserved : goal.loop-atom-preserved
loop-atom-preserved c =
    let P = IsAtomOver c.args.vars c.args.nodes in
    let x = c.atom-item.result in
    all_more P c.args.list.now c.loop-atom.atom-index x c.loop-atom-test.true c.loop-atom.invariant (subst P c.atom-item.is (c.is_atom_over.ensures (search (rules, c.if-not-is_atom_over.false))))

pub returns : goal.returns
returns c = λ _. subst (All (IsAtomOver c.args.vars c.args.nodes)) (take_all c.loop-atom.atom-index c.args.list.now (omega (arith, c.loop-atom-test.false))) c.loop-atom.invariant
