use Rattle.std.proofs.Common.{◌≡◌, ℕ, ◌<◌, ◌≤◌, false, length, get_or}
use Rattle.clause_exchange.proofs.counters.without.Given as goal

-- the numbers so far are out, and the others are as before
abbrev pub invariant-loop-k : goal.invariant-loop-k
invariant-loop-k l =
    (length l.owns ≡ 16)
    × ((j : ℕ) → l.fn.from ≤ j → j < l.k → get_or l.owns j false ≡ false)
    × ((j : ℕ) → j < l.fn.from → get_or l.owns j false ≡ get_or l.fn.owns j false)
    × ((j : ℕ) → l.k ≤ j → get_or l.owns j false ≡ get_or l.fn.owns j false)
