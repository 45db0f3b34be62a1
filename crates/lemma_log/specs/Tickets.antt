use Rattle.std.specs.Prelude.{◌≡◌, ℕ, ◌<◌, ◌^◌, List, length, slice_get, Some}
use Rattle.lemma_log.specs.declared.Entry.{Entry}

-- the entry at each place has the place as its ticket, and the tickets fit 32 bits
pub record AreInOrder (entries : List Entry) : Type 0 where
  pub few : length entries < 2 ^ 32
  pub each : (k : ℕ) (e : Entry) → slice_get entries k ≡ Some e → e.ticket ≡ k
