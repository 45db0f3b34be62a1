use Rattle.std.proofs.Common.{ℕ, ◌<◌}
use Rattle.c_check.specs.Graph.{Path}
use Rattle.c_check.proofs.reachability.first_back.Given as goal

abbrev pub invariant-loop-number : goal.invariant-loop-number
invariant-loop-number l = (j : ℕ) → j < l.number → Path l.rows j j → ⊥
