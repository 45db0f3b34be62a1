use Rattle.std.proofs.Common.{◌≡◌, ℕ, ◌<◌, ◌⊎◌, true, false, length, get_or}
use Rattle.clause_exchange.proofs.counters.add_numbers.Given as goal

-- the numbers so far are added
abbrev pub invariant-loop-k : goal.invariant-loop-k
invariant-loop-k l =
    (length l.ours ≡ 16)
    × ((j : ℕ) → get_or l.initial.ours j false ≡ true → get_or l.ours j false ≡ true)
    × ((j : ℕ) → j < l.k → get_or l.theirs j false ≡ true → get_or l.ours j false ≡ true)
    × ((j : ℕ) → get_or l.ours j false ≡ true → (get_or l.initial.ours j false ≡ true) ⊎ (get_or l.theirs j false ≡ true))
