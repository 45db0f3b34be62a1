use Rattle.std.proofs.Common.{◌≡◌, ◌++◌, drop}
use Rattle.log_checker.specs.Pairs.{own_edges, pairs_in}
use Rattle.log_checker.proofs.edge_list.put_own.Given as goal

abbrev pub invariant-loop-place : goal.invariant-loop-place
invariant-loop-place l = l.pairs.items ++ pairs_in l.graph (own_edges l.atoms (drop l.place-index l.places)) ≡ l.fn.pairs.items ++ pairs_in l.graph (own_edges l.atoms l.places)
