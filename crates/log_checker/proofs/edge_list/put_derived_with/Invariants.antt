use Rattle.std.proofs.Common.{◌≡◌, ◌++◌, drop}
use Rattle.log_checker.specs.Pairs.{derived_with, pairs_in}
use Rattle.log_checker.proofs.edge_list.put_derived_with.Given as goal

abbrev pub invariant-loop-place : goal.invariant-loop-place
invariant-loop-place l =
    l.pairs.items ++ pairs_in l.graph (derived_with l.problem.nodes l.problem.atoms l.kind (drop l.place-index l.places))
    ≡ l.fn.pairs.items ++ pairs_in l.graph (derived_with l.problem.nodes l.problem.atoms l.kind l.places)
