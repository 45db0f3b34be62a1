use Rattle.std.proofs.Common.{◌≡◌, ◌++◌, drop}
use Rattle.log_checker.specs.Pairs.{pairs_in}
use Rattle.log_checker.proofs.edge_list.put_edges.Given as goal

-- what is put, with what is still to be put, is what was there with all
abbrev pub invariant-loop-edge : goal.invariant-loop-edge
invariant-loop-edge l = l.pairs.items ++ pairs_in l.graph (drop l.edge-index l.edges) ≡ l.fn.pairs.items ++ pairs_in l.graph l.edges
