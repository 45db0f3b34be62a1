-- What each operator does to numbers, bit by bit.
use Rattle.std.proofs.Common.{◌≡◌, ℕ, zero, suc, ◌+◌, ◌-◌, ◌*◌, ◌/◌, ◌%◌, ◌^◌, ◌<◌, inl, inr, Bool, true, false, not, ◌&&◌, ◌||◌, refl, ap, sym, ◌∙◌, arith}
use Rattle.std.specs.Prelude.{nat_lt, nat_eq, cond, if◌then◌else◌, bit_and, bit_or, bit_xor}
use Rattle.std.specs.Bool.{xor}
use mathlib.Core.Bool.{xor as the_xor}
use Rattle.std.proofs.lemmas.Bool.Decides.{nat_tests}
use Rattle.std.proofs.lemmas.Nat.{and_block, or_block, xor_block, mod-pow-add, pow-add, mul-mod_first, shr-shr, shr_le, div-mul-add, mod-mul-add, shr_split, mod_below, pow_pos}
use Rattle.std.proofs.lemmas.Bool.{cases_eq, cases_lt}
use Rattle.std.specs.Int.{bit_at}
use Rattle.std.proofs.lemmas.Nat.Bits.{shr_and_one, same_from_bits, bit_at_xor, bit_at-zero, bit_at-lt}
use Rattle.dg_base.specs.Values.{truth_of}
use Rattle.bit_gates.specs.declared.bits.BitKind.{BitKind}
use Rattle.bit_gates.specs.declared.bits.BitKind.TheVariants.{And, Or, Xor}
use Rattle.bit_gates.specs.Words.{bit_of, word_of, filled_shift}

-- twice a power
pub twice : (i : ℕ) → 2 ^ (i + 1) ≡ 2 * 2 ^ i
twice i = pow-add 2 i 1 ∙ omega arith

-- one place of an adder
pub sum_step : (P n k A B c s next x y : ℕ) → n + P * k ≡ A + B + c → s + 2 * next ≡ x + y + k → (n + P * s) + (2 * P) * next ≡ (A + P * x) + (B + P * y) + c
sum_step P n k A B c s next x y h e =
    let scaled : P * (s + 2 * next) ≡ P * (x + y + k) = ap (λ z. P * z) e in
    omega arith

-- the bits of a full adder
pub adder_bits : (x y c : Bool) → truth_of (xor (xor x y) c) + 2 * truth_of (if xor x y then c else x) ≡ truth_of x + truth_of y + truth_of c
unfolding the_xor
adder_bits true true true = refl
adder_bits true true false = refl
adder_bits true false true = refl
adder_bits true false false = refl
adder_bits false true true = refl
adder_bits false true false = refl
adder_bits false false true = refl
adder_bits false false false = refl

-- the top place of a sum, without its carry
pub top_step : (n A B c : ℕ) (x y k : Bool) → n < 2 ^ 31 → n + 2 ^ 31 * truth_of k ≡ A + B + c
    → n + 2 ^ 31 * truth_of (xor (xor x y) k) ≡ ((A + 2 ^ 31 * truth_of x) + (B + 2 ^ 31 * truth_of y) + c) % 2 ^ 32
unfolding the_xor
top_step n A B c true true true low h = omega arith
top_step n A B c true true false low h = omega arith
top_step n A B c true false true low h = omega arith
top_step n A B c true false false low h = omega arith
top_step n A B c false true true low h = omega arith
top_step n A B c false true false low h = omega arith
top_step n A B c false false true low h = omega arith
top_step n A B c false false false low h = omega arith

-- one place of a comparison
pub less_step : (P A B : ℕ) (x y : Bool) → A < P → B < P → (if xor x y then y else nat_lt A B) ≡ nat_lt (A + P * truth_of x) (B + P * truth_of y)
unfolding the_xor
less_step P A B true true h k = grind (arith, nat_tests)
less_step P A B true false h k = grind (arith, nat_tests)
less_step P A B false true h k = grind (arith, nat_tests)
less_step P A B false false h k = grind (arith, nat_tests)

-- one place of a disjunction
pub any_step : (P A : ℕ) (x : Bool) → 0 < P → (nat_lt 0 A || x) ≡ nat_lt 0 (A + P * truth_of x)
any_step P A true h = grind (arith, nat_tests)
any_step P A false h = grind (arith, nat_tests)

-- one place of a choice
pub choice_step : (c : Bool) (P A B x y : ℕ) → (if c then A else B) + P * (if c then x else y) ≡ (if c then A + P * x else B + P * y)
choice_step true P A B x y = refl
choice_step false P A B x y = refl

-- the operators on bits as operators on numbers
and_bits : (x y : Bool) → bit_and (truth_of x) (truth_of y) ≡ truth_of (x && y)
and_bits true true = refl
and_bits true false = refl
and_bits false true = refl
and_bits false false = refl

or_bits : (x y : Bool) → bit_or (truth_of x) (truth_of y) ≡ truth_of (x || y)
or_bits true true = refl
or_bits true false = refl
or_bits false true = refl
or_bits false false = refl

xor_bits : (x y : Bool) → bit_xor (truth_of x) (truth_of y) ≡ truth_of (xor x y)
unfolding the_xor
xor_bits true true = refl
xor_bits true false = refl
xor_bits false true = refl
xor_bits false false = refl

-- one place of a bitwise operator
pub bitwise_step : (kind : BitKind) (k A B : ℕ) (x y : Bool) → A < 2 ^ k → B < 2 ^ k
    → word_of kind A B + 2 ^ k * truth_of (bit_of kind x y) ≡ word_of kind (A + 2 ^ k * truth_of x) (B + 2 ^ k * truth_of y)
bitwise_step And k A B x y h g =
    let left : A + 2 ^ k * truth_of x ≡ truth_of x * 2 ^ k + A = omega arith in
    let right : B + 2 ^ k * truth_of y ≡ truth_of y * 2 ^ k + B = omega arith in
    rw (left, right, and_block k (truth_of x) (truth_of y) A B h g, and_bits x y) (omega arith)
bitwise_step Or k A B x y h g =
    let left : A + 2 ^ k * truth_of x ≡ truth_of x * 2 ^ k + A = omega arith in
    let right : B + 2 ^ k * truth_of y ≡ truth_of y * 2 ^ k + B = omega arith in
    rw (left, right, or_block k (truth_of x) (truth_of y) A B h g, or_bits x y) (omega arith)
bitwise_step Xor k A B x y h g =
    let left : A + 2 ^ k * truth_of x ≡ truth_of x * 2 ^ k + A = omega arith in
    let right : B + 2 ^ k * truth_of y ≡ truth_of y * 2 ^ k + B = omega arith in
    rw (left, right, xor_block k (truth_of x) (truth_of y) A B h g, xor_bits x y) (omega arith)

-- one place of a constant
pub constant_step : (n i : ℕ) → n % 2 ^ i + 2 ^ i * truth_of (nat_eq (bit_and (n / 2 ^ i) 1) 1) ≡ n % 2 ^ (i + 1)
constant_step n i =
    let bit : bit_and (n / 2 ^ i) 1 ≡ n / 2 ^ i % 2 = shr_and_one n i in
    let parts : n % 2 ^ (1 + i) ≡ (n / 2 ^ i % 2) * 2 ^ i + n % 2 ^ i = mod-pow-add n 1 i in
    let turned : 2 ^ (i + 1) ≡ 2 ^ (1 + i) = ap (λ k. 2 ^ k) (omega arith) in
    rw (turned, parts, bit) (by_bit (n / 2 ^ i % 2) (omega arith))
  where
    by_bit : (b : ℕ) → b < 2 → n % 2 ^ i + 2 ^ i * truth_of (nat_eq b 1) ≡ b * 2 ^ i + n % 2 ^ i
    by_bit zero h = omega arith
    by_bit (suc zero) h = omega arith
    by_bit (suc (suc b)) h = absurd (omega arith)

-- one row of a product
pub row_step : (a B i : ℕ) (x : Bool) → ((a * B) % 2 ^ 32 + truth_of x * (a * 2 ^ i)) % 2 ^ 32 ≡ (a * (B + 2 ^ i * truth_of x)) % 2 ^ 32
row_step a B i true = mod_sum (a * B) (a * 2 ^ i) ∙ ap (λ n. n % 2 ^ 32) (omega arith)
  where
    mod_sum : (u v : ℕ) → (u % 2 ^ 32 + 1 * v) % 2 ^ 32 ≡ (u + v) % 2 ^ 32
    mod_sum u v = omega arith
row_step a B i false = mod_alone (a * B) (a * 2 ^ i) ∙ ap (λ n. n % 2 ^ 32) (omega arith)
  where
    mod_alone : (u v : ℕ) → (u % 2 ^ 32 + 0 * v) % 2 ^ 32 ≡ u % 2 ^ 32
    mod_alone u v = omega arith

pub row_sum : (S v : ℕ) (x : Bool) → (S + (if x then v % 2 ^ 32 else 0) + 0) % 2 ^ 32 ≡ (S + truth_of x * v) % 2 ^ 32
row_sum S v true = omega arith
row_sum S v false = omega arith

-- one step of a shift
pub up_step : (a M k : ℕ) (x : Bool) → (if x then ((a * 2 ^ M) % 2 ^ 32 * 2 ^ k) % 2 ^ 32 else (a * 2 ^ M) % 2 ^ 32) ≡ (a * 2 ^ (M + k * truth_of x)) % 2 ^ 32
up_step a M k true =
    let e : a * 2 ^ M * 2 ^ k ≡ a * 2 ^ (M + k * 1) = rw (ap (λ n. 2 ^ (M + n)) (let o : k * 1 ≡ k = omega arith in o), pow-add 2 M k) (omega arith) in
    mul-mod_first (a * 2 ^ M) (2 ^ k) (2 ^ 32) ∙ ap (λ n. n % 2 ^ 32) e
up_step a M k false = ap (λ n. (a * 2 ^ n) % 2 ^ 32) (omega arith)

pub down_step : (f : Bool) (n M k : ℕ) (x : Bool) → n < 2 ^ 32 → (if x then filled_shift f (filled_shift f n M) k else filled_shift f n M) ≡ filled_shift f n (M + k * truth_of x)
down_step f n M k false h = ap (filled_shift f n) (omega arith)
down_step false n M k true h = shr-shr n M k ∙ ap (λ z. n / 2 ^ z) (omega arith)
down_step true n M k true h =
    let m = 2 ^ 32 - 1 - n in
    let below = shr_le m M in
    let inner : 2 ^ 32 - 1 - (2 ^ 32 - 1 - m / 2 ^ M) ≡ m / 2 ^ M = omega arith in
    ap (λ z. 2 ^ 32 - 1 - z / 2 ^ k) inner ∙ ap (λ z. 2 ^ 32 - 1 - z) (shr-shr m M k ∙ ap (λ z. m / 2 ^ z) (omega arith))

-- a number moved up within 32 bits
pub moved_within : (n p q : ℕ) → p + q ≡ 32 → 2 ^ p * (n % 2 ^ q) ≡ (n * 2 ^ p) % 2 ^ 32
moved_within n p q e =
    let split : n / 2 ^ q * 2 ^ q + n % 2 ^ q ≡ n = shr_split n q in
    let all : 2 ^ p * 2 ^ q ≡ 2 ^ 32 = sym (pow-add 2 p q) ∙ ap (λ k. 2 ^ k) e in
    let low : n % 2 ^ q * 2 ^ p < 2 ^ q * 2 ^ p = mul_low (n % 2 ^ q) (2 ^ q) (2 ^ p) (mod_below n (2 ^ q) (pow_pos q)) (pow_pos p) in
    let fits : n % 2 ^ q * 2 ^ p < 2 ^ 32 = omega arith in
    let whole : n * 2 ^ p ≡ n / 2 ^ q * 2 ^ 32 + n % 2 ^ q * 2 ^ p = by_parts n (n / 2 ^ q) (n % 2 ^ q) (2 ^ p) (2 ^ q) split all in
    let turned : 2 ^ p * (n % 2 ^ q) ≡ n % 2 ^ q * 2 ^ p = omega arith in
    turned ∙ sym (ap (λ z. z % 2 ^ 32) whole ∙ mod-mul-add (n / 2 ^ q) (2 ^ 32) (n % 2 ^ q * 2 ^ p) fits)
  where
    mul_low : (a b c : ℕ) → a < b → 0 < c → a * c < b * c
    mul_low a b c h k = grind arith

    by_parts : (n h l P Q : ℕ) → h * Q + l ≡ n → P * Q ≡ 2 ^ 32 → n * P ≡ h * 2 ^ 32 + l * P
    by_parts n h l P Q split all = omega (arith, ap (λ z. z * P) split, ap (λ z. h * z) all)

-- restoring: the rest is the difference where the divisor is not greater
pub restore : (r next b L R : ℕ) (top carry : Bool) → L + 2 ^ 32 * truth_of top ≡ 2 * r + next → R + 2 ^ 32 * truth_of carry + b ≡ L + 2 ^ 32
    → R < 2 ^ 32 → L < 2 ^ 32 → b < 2 ^ 32 → r < b → next < 2
    → (2 * r + next ≡ truth_of (top || carry) * b + (if top || carry then R else L)) × ((if top || carry then R else L) < b)
restore r next b L R true true h k low_r low_l low_b below bit = absurd (omega arith)
restore r next b L R true false h k low_r low_l low_b below bit = (omega arith, omega arith)
restore r next b L R false true h k low_r low_l low_b below bit = (omega arith, omega arith)
restore r next b L R false false h k low_r low_l low_b below bit = (omega arith, omega arith)

-- one more bit of a quotient
pub quotient_step : (A Q b r x t behind : ℕ) → A ≡ Q * b + r → 2 * r + x ≡ t * b + behind → x + 2 * A ≡ (t + 2 * Q) * b + behind
quotient_step A Q b r x t behind h k = omega arith

-- the quotient and the remainder, 0 where the divisor is
positive_test : (b : ℕ) → 0 < b → nat_lt 0 b ≡ true
positive_test b h = grind (arith, nat_tests)

nonzero_test : (b : ℕ) → 0 < b → nat_eq b 0 ≡ false
nonzero_test b h = grind (arith, nat_tests)

pub quotient_is : (a b q r : ℕ) → (0 < b → (a ≡ q * b + r) × (r < b)) → (if nat_lt 0 b then q else 0) ≡ cond (nat_eq b 0) 0 (a / b)
quotient_is a b q r h =
    elim (cases_lt 0 b) [
      | inl some ↦
          let at = h some in
          let x = positive_test b some in
          let y = nonzero_test b some in
          rw (x, y) (sym (ap (λ z. z / b) at.0 ∙ div-mul-add q b r at.1))
      | inr none ↦ let e : b ≡ 0 = omega arith in rw e refl
    ]

pub remainder_is : (a b q r : ℕ) → (0 < b → (a ≡ q * b + r) × (r < b)) → (if nat_lt 0 b then r else 0) ≡ cond (nat_eq b 0) 0 (a % b)
remainder_is a b q r h =
    elim (cases_lt 0 b) [
      | inl some ↦
          let at = h some in
          let x = positive_test b some in
          let y = nonzero_test b some in
          rw (x, y) (sym (ap (λ z. z % b) at.0 ∙ mod-mul-add q b r at.1))
      | inr none ↦ let e : b ≡ 0 = omega arith in rw e refl
    ]

-- two numbers are equal where no bit is apart
xor_none_same : (a b : ℕ) → bit_xor a b ≡ 0 → a ≡ b
xor_none_same a b h =
    same_from_bits a b (λ i.
    let e = bit_at_xor a b i in
    let z : bit_at (bit_xor a b) i ≡ 0 = rw h (bit_at-zero i) in
    let x = bit_at-lt a i in
    let y = bit_at-lt b i in
    small_even (bit_at a i) (bit_at b i) x y (sym e ∙ z))
  where
    small_even : (m n : ℕ) → m < 2 → n < 2 → (m + n) % 2 ≡ 0 → m ≡ n
    small_even m n h k e = omega arith

same_xor_none : (a : ℕ) → bit_xor a a ≡ 0
same_xor_none a =
    same_from_bits (bit_xor a a) 0 (λ i. bit_at_xor a a i ∙ even (bit_at a i) ∙ sym (bit_at-zero i))
  where
    even : (m : ℕ) → (m + m) % 2 ≡ 0
    even m = omega arith

pub apart_none : (a b : ℕ) → not (nat_lt 0 (bit_xor a b)) ≡ nat_eq a b
apart_none a b =
    elim (cases_eq a b) [
      | inl e ↦
          let z : bit_xor a b ≡ 0 = rw (← e) (same_xor_none a) in
          rw z (grind (arith, nat_tests))
      | inr apart ↦
          let some : bit_xor a b ≡ 0 → ⊥ = λ z. apart (xor_none_same a b z) in
          tests (bit_xor a b) some apart
    ]
  where
    tests : (x : ℕ) → (x ≡ 0 → ⊥) → (a ≡ b → ⊥) → not (nat_lt 0 x) ≡ nat_eq a b
    tests x some apart = grind (arith, nat_tests)
