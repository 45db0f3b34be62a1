use Rattle.std.specs.Prelude.{◌≡◌, ℕ, zero, suc, ◌-◌, ◌<◌, ◌^◌, List, [], ◌∷◌, ◌++◌, slice_index}

-- the first 2 ^ k - 1 terms of Luby's sequence: those for k - 1 twice, and then 2 ^ (k - 1)
unfoldable pub luby_terms : ℕ → List ℕ
luby_terms zero = []
luby_terms (suc k) = luby_terms k ++ luby_terms k ++ 2 ^ k ∷ []

-- term i of Luby's sequence, from 1 on: so it stands in each beginning that is long enough. Term 0 is 0
pub record IsLuby (i n : ℕ) : Type 0 where
  pub before : i ≡ 0 → n ≡ 0
  pub term : (k : ℕ) → 0 < i → i < 2 ^ k → slice_index (luby_terms k) (i - 1) ≡ n
