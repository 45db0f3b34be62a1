-- Bytes that do not stand in a text.
use Rattle.std.proofs.Common.{◌≡◌, ℕ, zero, suc, ◌+◌, ◌/◌, ◌%◌, ◌<◌, Bool, true, false, cond, eqb, List, [], ◌∷◌, take, refl, ap, arith, one-add, ne_eqb, lt-ltb}
use Rattle.std.specs.List.{prefix_len}
use Rattle.std.specs.Fmt.{digits, digits_onto, decimal, digit_glyph}
use Rattle.std.proofs.lemmas.Bool.{cond_both}
use Rattle.c_check.specs.PlainNames.{lacks}

pub lacks_cons : (b x : ℕ) (xs : List ℕ) → eqb x b ≡ false → lacks b xs ≡ true → lacks b (x ∷ xs) ≡ true
lacks_cons b x xs e h = rw e h

-- a byte that does not pass a test is none of those that do
other_byte : (b : ℕ) (p : ℕ → Bool) (x : ℕ) → p b ≡ false → p x ≡ true → eqb x b ≡ false
other_byte b p x h e = ne_eqb x b (λ s. let same = ap p s in absurd cc)

pub prefix_lacks : (b : ℕ) (p : ℕ → Bool) (xs : List ℕ) → p b ≡ false → lacks b (take (prefix_len p xs) xs) ≡ true
prefix_lacks b p [] h = refl
prefix_lacks b p (x ∷ xs) h = step (p x) refl (prefix_lacks b p xs h)
  where
    step : (t : Bool) → p x ≡ t → lacks b (take (prefix_len p xs) xs) ≡ true → lacks b (take (cond t (1 + prefix_len p xs) 0) (x ∷ xs)) ≡ true
    step true e more = rw one-add (lacks_cons b x (take (prefix_len p xs) xs) (other_byte b p x h e) more)
    step false e more = refl

-- a first byte that passes one test, and those behind it that pass another
pub first_and_prefix_lacks : (b : ℕ) (p q : ℕ → Bool) (x : ℕ) (xs : List ℕ) → p b ≡ false → q b ≡ false → p x ≡ true → lacks b (take (1 + prefix_len q xs) (x ∷ xs)) ≡ true
first_and_prefix_lacks b p q x xs h k e = rw one-add (lacks_cons b x (take (prefix_len q xs) xs) (other_byte b p x h e) (prefix_lacks b q xs k))

digit_other : (b d : ℕ) → b < 48 → d < 10 → eqb (digit_glyph false d) b ≡ false
digit_other b d low h = rw (lt-ltb d 10 h) (ne_eqb (48 + d) b (omega arith))

onto_lacks : (k b n : ℕ) (acc : List ℕ) → b < 48 → lacks b acc ≡ true → lacks b (digits_onto k 10 false n acc) ≡ true
onto_lacks zero b n acc low h = h
onto_lacks (suc k) b n acc low h =
    let more : lacks b (digit_glyph false (n % 10) ∷ acc) ≡ true = lacks_cons b (digit_glyph false (n % 10)) acc (digit_other b (n % 10) low (omega arith)) h in
    cond_both (eqb (n / 10) 0) (digit_glyph false (n % 10) ∷ acc) (digits_onto k 10 false (n / 10) (digit_glyph false (n % 10) ∷ acc)) (λ ds. lacks b ds ≡ true) (λ _. more)
    (λ _. onto_lacks k b (n / 10) (digit_glyph false (n % 10) ∷ acc) low more)

-- no such byte is a digit, of however large a number
pub digits_lack : (b n : ℕ) → b < 48 → lacks b (decimal n) ≡ true
unfolding digits
digits_lack b n low = onto_lacks 64 b n [] low refl
