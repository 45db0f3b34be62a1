use Rattle.std.proofs.Common.{◌≡◌, ◌++◌, drop}
use Rattle.log_checker.specs.Pairs.{derived_over, pairs_in}
use Rattle.log_checker.proofs.edge_list.put_all_derived.Given as goal

abbrev pub invariant-loop-place : goal.invariant-loop-place
invariant-loop-place l =
    l.pairs.items ++ pairs_in l.graph (derived_over l.problem.nodes l.problem.atoms (drop l.place-index l.places) l.places)
    ≡ l.fn.pairs.items ++ pairs_in l.graph (derived_over l.problem.nodes l.problem.atoms l.places l.places)
