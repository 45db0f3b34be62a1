use Rattle.std.proofs.Common.{◌≡◌, ◌++◌, drop, map}
use Rattle.c_check.specs.Graph.{callees_in, callees_of}
use Rattle.c_check.proofs.calls.callees_of.Given as goal

abbrev pub invariant-loop-item : goal.invariant-loop-item
invariant-loop-item l = l.all ++ map (callees_in l.items) (drop l.item-index l.items) ≡ callees_of l.items
