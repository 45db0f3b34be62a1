use Rattle.std.proofs.Common.{◌≡◌, ◌++◌, drop}
use Rattle.c_check.specs.Graph.{edges_from}
use Rattle.c_check.proofs.recursion.edges_of.Given as goal

abbrev pub invariant-loop-i : goal.invariant-loop-i
invariant-loop-i l = l.edges ++ edges_from l.i (drop l.i l.rows) ≡ edges_from 0 l.rows
