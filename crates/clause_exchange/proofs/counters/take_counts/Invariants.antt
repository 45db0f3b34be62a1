use Rattle.std.proofs.Common.{◌≡◌, ℕ, ◌<◌, true, false, length, get_or}
use Rattle.clause_exchange.proofs.counters.take_counts.Given as goal

-- the counts so far are taken over
abbrev pub invariant-loop-k : goal.invariant-loop-k
invariant-loop-k l =
    (length l.ours ≡ 16)
    × ((j : ℕ) → get_or l.owns j false ≡ true → get_or l.ours j 0 ≡ get_or l.initial.ours j 0)
    × ((j : ℕ) → j < l.k → get_or l.owns j false ≡ false → get_or l.ours j 0 ≡ get_or l.theirs j 0)
