use Rattle.std.proofs.Common.{◌≡◌, ◌+◌, ◌*◌, map, take, length}
use Rattle.order_solver.proofs.solver.atoms_by_literal.Given as goal

abbrev pub invariant-loop-atom : goal.invariant-loop-atom
invariant-loop-atom l = record {
  codes : l.atoms.nodes ≡ 2 * l.problem.vars + 2;
  limit : l.atoms.limit ≡ length l.problem.atoms;
  list : l.atoms.list ≡ map (λ a. (a.lit.0, a.lit.0)) (take l.atom-index l.problem.atoms);
}
