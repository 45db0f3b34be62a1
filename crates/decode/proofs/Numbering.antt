-- The number of the bits from a place on.
use Rattle.std.proofs.Common.{◌≡◌, ℕ, ◌<◌, ◌≤◌, ◌^◌, List, [], ◌∷◌, Bool, length, drop, refl, arith}
use Rattle.std.proofs.lemmas.List.{length-drop}
use Rattle.std.proofs.Math.Pow.{pow_mono}
use Rattle.dg_base.specs.declared.Lit.{Lit}
use Rattle.bit_gates.specs.Words.{number}
use Rattle.bit_gates.proofs.Numbers.{number_below}

none : (s : List Bool) (ls : List Lit) → length ls ≡ 0 → 0 ≡ number s ls
none s [] h = refl
none s (l ∷ ls) h = absurd (omega (arith, h))

pub begun : (s : List Bool) (xs : List Lit) (n : ℕ) → length xs ≡ n → 0 ≡ number s (drop n xs)
begun s xs n long = none s (drop n xs) (let left = length-drop n xs in omega (arith, long, left))

pub below : (s : List Bool) (xs : List Lit) (p : ℕ) → length xs ≡ 32 → 0 < p → number s (drop p xs) < 2147483648
below s xs p long some =
    let left = length-drop p xs in
    let short : length (drop p xs) ≤ 31 = omega (arith, long, left, some) in
    let low = number_below s (drop p xs) in
    let most : 2 ^ length (drop p xs) ≤ 2 ^ 31 = pow_mono short in
    omega (arith, low, most)
