use Rattle.std.proofs.Common.{◌≡◌, ◌+◌, ◌∷◌, length, take}
use Rattle.cnf_problem.specs.Literals.{negated}
use Rattle.order_vars.proofs.pair_clauses.some_bit.Given as goal

abbrev pub invariant-loop-i : goal.invariant-loop-i
invariant-loop-i l = record { long : length l.clause ≡ 33; so_far : take (l.i + 1) l.clause ≡ negated l.fn.lit ∷ take l.i l.bits }
