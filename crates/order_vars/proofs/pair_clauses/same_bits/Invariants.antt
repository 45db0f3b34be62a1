use Rattle.std.proofs.Common.{◌≡◌, take}
use Rattle.order_vars.specs.Clauses.{with_clauses, same_clauses}
use Rattle.order_vars.proofs.pair_clauses.same_bits.Given as goal

abbrev pub invariant-loop-i : goal.invariant-loop-i
invariant-loop-i l = l.gates ≡ with_clauses l.initial.gates (same_clauses l.lit (take l.i l.first) (take l.i l.second))
