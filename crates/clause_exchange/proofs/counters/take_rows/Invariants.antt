use Rattle.std.proofs.Common.{◌≡◌, ℕ, ◌/◌, ◌<◌, true, false, length, get_or}
use Rattle.clause_exchange.proofs.counters.take_rows.Given as goal

-- the counts so far are taken over
abbrev pub invariant-loop-i : goal.invariant-loop-i
invariant-loop-i l =
    (length l.ours ≡ 256)
    × ((j : ℕ) → get_or l.owns (j / 16) false ≡ true → get_or l.ours j 0 ≡ get_or l.initial.ours j 0)
    × ((j : ℕ) → j < l.i → get_or l.owns (j / 16) false ≡ false → get_or l.ours j 0 ≡ get_or l.theirs j 0)
