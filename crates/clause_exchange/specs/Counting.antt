-- How the counters of one seat take over those of another.
use Rattle.std.specs.Prelude.{◌≡◌, ℕ, ◌/◌, ◌<◌, ◌⊎◌, true, false, slice_index, slice_index_or}
use Rattle.clause_exchange.specs.declared.counters.Counters.{Counters}

-- the counters have the number
abbrev pub Owns : Counters → ℕ → Type 0
Owns c k = slice_index_or c.owns k false ≡ true

-- the first so many numbers, which have counted nothing
pub record AreNew (count : ℕ) (c : Counters) : Type 0 where
  pub first : (k : ℕ) → k < count → Owns c k
  pub only : (k : ℕ) → Owns c k → k < count
  pub written : (k : ℕ) → slice_index c.written k ≡ 0
  pub looked : (i : ℕ) → slice_index c.looked i ≡ 0
  pub loaded : (i : ℕ) → slice_index c.loaded i ≡ 0

-- the second counters have of a number what the first have
pub record CountsAs (c d : Counters) (k : ℕ) : Type 0 where
  pub written : slice_index d.written k ≡ slice_index c.written k
  pub looked : (i : ℕ) → i < 256 → i / 16 ≡ k → slice_index d.looked i ≡ slice_index c.looked i
  pub loaded : (i : ℕ) → i < 256 → i / 16 ≡ k → slice_index d.loaded i ≡ slice_index c.loaded i

-- the numbers of both, with what the first have of their own, and else with what the second have
pub record TakesOver (old other new : Counters) : Type 0 where
  pub kept : (k : ℕ) → Owns old k → Owns new k
  pub added : (k : ℕ) → Owns other k → Owns new k
  pub only : (k : ℕ) → Owns new k → Owns old k ⊎ Owns other k
  pub as_old : (k : ℕ) → Owns old k → CountsAs old new k
  pub as_other : (k : ℕ) → k < 16 → slice_index_or old.owns k false ≡ false → CountsAs other new k
