-- Values of digits.
use Rattle.std.proofs.Common.{◌≡◌, ℕ, ◌+◌, ◌*◌, ◌<◌, ◌≤◌, Bool, true, false, cond, List, [], ◌∷◌, length, drop, get_or, nat_lt, Some, None, refl, ap, arith, drop-cons, add-one}
use Rattle.std.proofs.lemmas.Bool.{ltb-true, le-ltb}
use Rattle.std.proofs.Math.Nat.{mul-le-mul_left}
use Rattle.token_list.specs.Numbers.{digit_of, value_from, value_of, below}

-- more digits make no number smaller
pub stays_large : (limit base n : ℕ) (bs : List ℕ) → limit ≤ n → below limit (value_from base n bs) ≡ None
stays_large limit base n [] h = ap (λ t. cond t (Some n) None) (le-ltb n limit h)
stays_large limit base n (b ∷ bs) h =
    let longer : 1 ≤ base → below limit (value_from base (n * base + digit_of b) bs) ≡ None =
    λ one. stays_large limit base (n * base + digit_of b) bs (omega (arith, mul-le-mul_left n one)) in
    step (nat_lt (digit_of b) base) refl longer
  where
    step : (t : Bool) → nat_lt (digit_of b) base ≡ t → (1 ≤ base → below limit (value_from base (n * base + digit_of b) bs) ≡ None)
        → below limit (cond t (value_from base (n * base + digit_of b) bs) None) ≡ None
    step true e longer = let l = ltb-true (digit_of b) base e in longer (omega arith)
    step false e longer = refl

-- the value of digits from the i-th on
pub value_from_next : (base n : ℕ) (bs : List ℕ) (i d : ℕ) → i < length bs
    → value_from base n (drop i bs) ≡ cond (nat_lt (digit_of (get_or bs i d)) base) (value_from base (n * base + digit_of (get_or bs i d)) (drop (i + 1) bs)) None
value_from_next base n bs i d h = rw (add-one, drop-cons bs i d) refl

pub value_of_some : (base : ℕ) (bs : List ℕ) → 0 < length bs → value_of base bs ≡ value_from base 0 bs
value_of_some base [] h = absurd (omega arith)
value_of_some base (b ∷ bs) h = refl
