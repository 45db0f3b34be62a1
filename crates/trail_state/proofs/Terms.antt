-- The terms of Luby's sequence.
use Rattle.std.proofs.Common.{◌≡◌, ◌≢◌, ℕ, zero, suc, ◌+◌, ◌-◌, ◌/◌, ◌<◌, ◌≤◌, ◌^◌, [], ◌∷◌, ◌++◌, length, get_or, refl, ap, sym, ◌∙◌, arith}
use Rattle.std.proofs.Math.Nat.{pow-suc}
use Rattle.std.proofs.lemmas.List.{length-append, length_push, get_or_append_left, get_or-append_right, get_or_push}
use Rattle.trail_state.specs.Restarts.{luby_terms, IsLuby}

terms_suc : (k : ℕ) → luby_terms (suc k) ≡ luby_terms k ++ luby_terms k ++ 2 ^ k ∷ []
unfolding luby_terms
terms_suc k = refl

-- how many terms there are
pub length-terms : (k : ℕ) → length (luby_terms k) + 1 ≡ 2 ^ k
unfolding luby_terms
length-terms zero = refl
length-terms (suc k) =
    let h = length-terms k in
    let p = pow-suc 2 k in
    omega (arith, length_push (luby_terms k ++ luby_terms k) (2 ^ k), length-append (luby_terms k) (luby_terms k))

-- a longer beginning begins with a shorter one
terms_more : (d k n i : ℕ) → n ≡ d + k → i + 1 < 2 ^ k → get_or (luby_terms n) i 0 ≡ get_or (luby_terms k) i 0
terms_more zero k n i e h = let s : n ≡ k = omega arith in ap (λ (m : ℕ). get_or (luby_terms m) i 0) s
terms_more (suc d) k n i e h =
    let s : n ≡ suc (d + k) = omega arith in
    let long = length-terms (d + k) in
    let up = grows d k in
    let within : i < length (luby_terms (d + k)) = omega arith in
    ap (λ (m : ℕ). get_or (luby_terms m) i 0) s
    ∙ (rw (terms_suc (d + k)) (get_or_append_left (luby_terms (d + k) ++ luby_terms (d + k)) (2 ^ (d + k) ∷ []) 0 i (omega (arith, length-append (luby_terms (d + k)) (luby_terms (d + k)))) ∙ get_or_append_left (luby_terms (d + k)) (luby_terms (d + k)) 0 i within)
    ∙ terms_more d k (d + k) i refl h)
  where
    grows : (d k : ℕ) → 2 ^ k ≤ 2 ^ (d + k)
    grows zero k = let s : k ≡ zero + k = omega arith in rw (← s) (omega arith)
    grows (suc d) k =
        let g = grows d k in
        let p = pow-suc 2 (d + k) in
        let s : suc d + k ≡ suc (d + k) = omega arith in
        rw s (omega arith)

-- two beginnings agree
terms_agree : (k n i : ℕ) → i + 1 < 2 ^ k → i + 1 < 2 ^ n → get_or (luby_terms k) i 0 ≡ get_or (luby_terms n) i 0
terms_agree k n i hk hn = sym (terms_more n k (n + k) i refl hk) ∙ terms_more k n (n + k) i (omega arith) hn

-- where the search for term i stands: it is term `rest` of a beginning of twice the power less one
pub record IsAt (i power rest : ℕ) : Type 0 where
  pub exp : ℕ
  pub power_is : power ≡ 2 ^ exp
  pub below : rest < 2 ^ suc exp
  pub tells : (n : ℕ) → get_or (luby_terms (suc exp)) (rest - 1) 0 ≡ n → IsLuby i n

-- at first
pub at_start : (i : ℕ) → 0 < i → i < 4294967296 → IsAt i 2147483648 i
at_start i low high = record {
  exp = 31;
  power_is = refl;
  below = high;
  tells = λ n e. record {
    before = λ z. absurd (omega arith);
    term = λ k h short. terms_agree k 32 (i - 1) (omega arith) (omega arith) ∙ e;
  };
}

module _ (i power rest : ℕ) (low : 0 < rest) (here : IsAt i power rest) where
  k : ℕ
  k = here.exp

  long : length (luby_terms here.exp) + 1 ≡ 2 ^ here.exp
  long = length-terms here.exp

  both : length (luby_terms here.exp ++ luby_terms here.exp) ≡ length (luby_terms here.exp) + length (luby_terms here.exp)
  both = length-append (luby_terms here.exp) (luby_terms here.exp)

  pub power_positive : 1 ≤ power
  power_positive = let l = length-terms here.exp in let p = here.power_is in omega arith

  -- the last term of the beginning
  pub at_found : power ≤ rest → rest - power ≡ power - 1 → IsLuby i power
  at_found le e =
      let l = length-terms here.exp in
      let p = here.power_is in
      here.tells power
      (rw (terms_suc here.exp) (get_or_push (luby_terms here.exp ++ luby_terms here.exp) (2 ^ here.exp) 0 (rest - 1) (omega (arith, length-append (luby_terms here.exp) (luby_terms here.exp))) ∙ sym here.power_is))

  -- a term of the first half
  pub at_lower : rest < power → IsAt i (power / 2) rest
  at_lower lt = lower here.exp here.power_is here.tells
    where
      lower : (x : ℕ) → power ≡ 2 ^ x → ((n : ℕ) → get_or (luby_terms (suc x)) (rest - 1) 0 ≡ n → IsLuby i n) → IsAt i (power / 2) rest
      lower zero p t = absurd (omega arith)
      lower (suc x) p t =
          let s = pow-suc 2 x in
          let l = length-terms (suc x) in
          record {
            exp = x;
            power_is = omega arith;
            below = omega arith;
            tells = λ n e.
                t n
                (rw (terms_suc (suc x))
                (get_or_append_left (luby_terms (suc x) ++ luby_terms (suc x)) (2 ^ suc x ∷ []) 0 (rest - 1) (omega (arith, length-append (luby_terms (suc x)) (luby_terms (suc x))))
                ∙ (get_or_append_left (luby_terms (suc x)) (luby_terms (suc x)) 0 (rest - 1) (omega arith) ∙ e)));
          }

  -- a term of the second half
  pub at_later : power ≤ rest → rest - power ≢ power - 1 → IsAt i (power / 2) (rest - (power - 1))
  at_later le ne = later here.exp here.power_is here.below here.tells
    where
      later : (x : ℕ) → power ≡ 2 ^ x → rest < 2 ^ suc x → ((n : ℕ) → get_or (luby_terms (suc x)) (rest - 1) 0 ≡ n → IsLuby i n) → IsAt i (power / 2) (rest - (power - 1))
      later zero p b t = absurd (let s = pow-suc 2 0 in omega arith)
      later (suc x) p b t =
          let s = pow-suc 2 x in
          let r = pow-suc 2 (suc x) in
          let l = length-terms (suc x) in
          let n_is : (rest - 1) - length (luby_terms (suc x)) ≡ (rest - (power - 1)) - 1 = omega arith in
          record {
            exp = x;
            power_is = omega arith;
            below = omega arith;
            tells = λ n e.
                t n
                (rw (terms_suc (suc x))
                (get_or_append_left (luby_terms (suc x) ++ luby_terms (suc x)) (2 ^ suc x ∷ []) 0 (rest - 1) (omega (arith, length-append (luby_terms (suc x)) (luby_terms (suc x))))
                ∙ (get_or-append_right (luby_terms (suc x)) (luby_terms (suc x)) (length (luby_terms (suc x))) (rest - 1) 0 refl (omega arith) ∙ (rw n_is e))));
          }
