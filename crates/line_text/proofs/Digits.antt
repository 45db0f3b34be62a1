-- Decimal numbers.
use Rattle.std.proofs.Common.{◌≡◌, ◌≢◌, ℕ, suc, zero, ◌+◌, ◌-◌, ◌*◌, ◌%◌, ◌^◌, ◌<◌, ◌≤◌, Bool, true, false, ◌&&◌, cond, eqb, nat_le, nat_lt, List, [], ◌∷◌, length, get_or, Some, None, refl, ap, sym, ◌∙◌, subst, arith, ne_eqb, eq-eqb, leb-true, ltb-true, le-leb, lt-ltb}
use Rattle.std.specs.Prelude.{◌↔◌, decimal}
use Rattle.std.specs.Int.{IsInRange}
use Rattle.std.proofs.lemmas.Bool.{and_parts}
use Rattle.std.proofs.lemmas.Str.Parse.{IsNumeralModel, IsDigitsTest, FoldsDigits, numerals_by_fold}
use Rattle.std.proofs.lemmas.Fmt.{digits_decimal, digits_value-decimal, decimal-digits_value, decimal_by_steps, decimal_digit, decimal_nonempty, first_decimal}
use Rattle.line_text.specs.Words.{IsDecimal, digits_from, lacks, number_in}
use Rattle.line_text.proofs.Bytes.{lacks_append}

abbrev AreDigits : List ℕ → Type 0
AreDigits [] = Unit {0}
AreDigits (c ∷ cs) = IsInRange 48 57 c × AreDigits cs

abbrev value_from : ℕ → List ℕ → ℕ
value_from n [] = n
value_from n (c ∷ cs) = value_from (n * 10 + (c - 48)) cs

tests_digits : IsDigitsTest AreDigits
tests_digits = record { empty = tt; parts = λ c cs p. p; more = λ c cs r p. (r, p) }

folds_digits : FoldsDigits value_from
folds_digits = record { empty = λ n. refl; more = λ n c cs r. refl }

own : IsNumeralModel AreDigits (value_from 0)
own = numerals_by_fold AreDigits tests_digits value_from folds_digits

no_smaller : (n : ℕ) (ds : List ℕ) → n ≤ value_from n ds
no_smaller n [] = omega arith
no_smaller n (c ∷ cs) = let h = no_smaller (n * 10 + (c - 48)) cs in omega arith

-- digits that are read, and their value
pub record Digits (n : ℕ) (ds : List ℕ) (m : ℕ) : Type 0 where
  pub all : AreDigits ds
  pub value : value_from n ds ≡ m
  pub small : m < 2 ^ 32

digits_sound : (n m : ℕ) (ds : List ℕ) → n < 2 ^ 32 → digits_from n ds ≡ Some m → Digits n ds m
digits_sound n m [] h e = let same : n ≡ m = cc in record { all = tt; value = same; small = subst (λ k. k < 2 ^ 32) same h }
digits_sound n m (c ∷ cs) h e = step ((nat_le 48 c && nat_le c 57) && nat_lt (n * 10 + (c - 48)) (2 ^ 32)) refl e (digits_sound (n * 10 + (c - 48)) m cs)
  where
    step : (t : Bool) → ((nat_le 48 c && nat_le c 57) && nat_lt (n * 10 + (c - 48)) (2 ^ 32)) ≡ t → cond t (digits_from (n * 10 + (c - 48)) cs) None ≡ Some m
        → (n * 10 + (c - 48) < 2 ^ 32 → digits_from (n * 10 + (c - 48)) cs ≡ Some m → Digits (n * 10 + (c - 48)) cs m) → Digits n (c ∷ cs) m
    step false k g more = cc
    step true k g more =
        let p = and_parts (nat_le 48 c && nat_le c 57) (nat_lt (n * 10 + (c - 48)) (2 ^ 32)) k in
        let q = and_parts (nat_le 48 c) (nat_le c 57) p.0 in
        let rest = more (ltb-true _ _ p.1) g in
        record { all = ((leb-true _ _ q.0, leb-true _ _ q.1), rest.all); value = rest.value; small = rest.small }

digits_complete : (n : ℕ) (ds : List ℕ) → AreDigits ds → value_from n ds < 2 ^ 32 → digits_from n ds ≡ Some (value_from n ds)
digits_complete n [] a h = refl
digits_complete n (c ∷ cs) a h =
    let low = no_smaller (n * 10 + (c - 48)) cs in
    let small : n * 10 + (c - 48) < 2 ^ 32 = omega arith in
    rw (le-leb 48 c a.0.0, le-leb c 57 a.0.1, lt-ltb _ _ small) (digits_complete (n * 10 + (c - 48)) cs a.1 h)

decimal_of : (t : List ℕ) (n : ℕ) → Digits 0 t n → 0 < length t → (get_or t 0 0 ≡ 48 → length t ≡ 1) → IsDecimal t n
decimal_of t n d some front =
    let s = d.small in
    let v = d.value in
    let small : value_from 0 t < 2 ^ 64 = omega arith in
    record { digits = sym (decimal-digits_value own t d.all some front small) ∙ ap decimal v; small = s }

pub number_from : (t : List ℕ) (n : ℕ) → number_in t ≡ Some n → IsDecimal t n
number_from [] n e = cc
number_from (b ∷ []) n e = decimal_of (b ∷ []) n (digits_sound 0 n (b ∷ []) (omega arith) e) (omega arith) (λ _. refl)
number_from (b ∷ c ∷ cs) n e = step (eqb b 48) refl e
  where
    step : (t : Bool) → eqb b 48 ≡ t → cond t None (digits_from 0 (b ∷ c ∷ cs)) ≡ Some n → IsDecimal (b ∷ c ∷ cs) n
    step true k g = cc
    step false k g = decimal_of (b ∷ c ∷ cs) n (digits_sound 0 n (b ∷ c ∷ cs) (omega arith) g) (omega arith) (λ z. absurd (other z))
      where
        other : b ≢ 48
        other z = let same = eq-eqb b 48 z in cc

number_of : (ds : List ℕ) → AreDigits ds → 0 < length ds → 48 < get_or ds 0 0 → value_from 0 ds < 2 ^ 32 → number_in ds ≡ Some (value_from 0 ds)
number_of [] a some h small = absurd (omega arith)
number_of (b ∷ []) a some h small = digits_complete 0 (b ∷ []) a small
number_of (b ∷ c ∷ cs) a some h small = let other : b ≢ 48 = omega arith in rw (ne_eqb b 48 other) (digits_complete 0 (b ∷ c ∷ cs) a small)

pub number_decimal : (n : ℕ) → n < 2 ^ 32 → number_in (decimal n) ≡ Some n
number_decimal zero h = rw (decimal_digit 0 (omega arith)) refl
number_decimal (suc m) h =
    let n = suc m in
    let h64 : n < 2 ^ 64 = omega arith in
    let v = digits_value-decimal own n h64 in
    let small : value_from 0 (decimal n) < 2 ^ 32 = rw v h in
    number_of (decimal n) (digits_decimal own n h64) (decimal_nonempty n h64) (first_decimal n (omega arith) h64) small ∙ ap Some v

-- no such byte is a digit
pub decimal_lacks : (b n : ℕ) → b < 48 → n < 2 ^ 32 → lacks b (decimal n) ≡ true
decimal_lacks b n low h = decimal_by_steps (λ _ ds. lacks b ds ≡ true) (λ m _. digit m) (λ m ds _ e. lacks_append b ds _ e (digit (m % 10))) n (omega arith)
  where
    digit : (m : ℕ) → lacks b ((48 + m) ∷ []) ≡ true
    digit m = let other : 48 + m ≢ b = omega arith in rw (ne_eqb (48 + m) b other) refl

pub reads_decimals : (t : List ℕ) (n : ℕ) → (number_in t ≡ Some n) ↔ IsDecimal t n
reads_decimals t n = (number_from t n, λ h. ap number_in h.digits ∙ number_decimal n h.small)
