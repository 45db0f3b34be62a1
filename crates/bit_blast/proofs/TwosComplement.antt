-- Words read in two's complement, by their magnitudes.
use Rattle.std.proofs.Common.{◌≡◌, ℕ, zero, suc, ◌+◌, ◌-◌, ◌*◌, ◌/◌, ◌%◌, ◌^◌, ◌<◌, ◌≤◌, Bool, true, false, not, List, length, take, set, get_or, refl, ap, sym, ◌∙◌, subst, arith}
use Rattle.std.specs.Prelude.{pos, negsuc, neg_ℤ, if◌then◌else◌, cond, nat_eq, nat_lt, int_lt}
use Rattle.std.specs.Bool.{xor}
use mathlib.Core.Bool.{xor as the_xor}
use Rattle.std.proofs.lemmas.Bool.Decides.{nat_tests}
use Rattle.dg_base.specs.Values.{int_of, spell, truth_of, quotient_int, remainder_int, shift_right_int}
use Rattle.bit_gates.specs.Words.{number, filled_shift, IsWordOver, IsWordGate, IsDivision}
use Rattle.dg_base.specs.declared.Lit.{Lit}
use Rattle.cnf_problem.specs.Literals.{value, negated, IsOver}
use Rattle.cnf_problem.specs.Formulas.{Formula, IsGate}
use Rattle.cnf_problem.proofs.Assignments.{over-negated}
use Rattle.cnf_problem.proofs.LiteralLaws.{value-negated}
use Rattle.cnf_problem.proofs.GateLaws.{extends_steps}
use Rattle.std.proofs.lemmas.List.{take_all, length-set}
use Rattle.std.proofs.lemmas.List.Elements.{All-set, All-get_or}
use Rattle.bit_gates.proofs.Numbers.{number_more, number_written, number_low}
use Rattle.bit_gates.proofs.Shifts.{word_fits}
use Rattle.bit_gates.proofs.Steps.{older, gate_as, word_as}

-- a word below 2^31 is itself, one from there on is negative
small : (a : ℕ) → a < 2 ^ 31 → int_of a ≡ pos a
small a h = grind (arith, nat_tests)

large : (a m : ℕ) → 2 ^ 31 ≤ a → a < 2 ^ 32 → suc m ≡ 2 ^ 32 - a → int_of a ≡ negsuc m
large a m h k e =
    let same : m ≡ 2 ^ 32 - suc a = omega arith in
    rw same (at a h)
  where
    at : (a : ℕ) → 2 ^ 31 ≤ a → int_of a ≡ negsuc (2 ^ 32 - suc a)
    at a h = grind (arith, nat_tests)

spell_negative : (n : ℕ) → n < 2 ^ 32 → spell (neg_ℤ (pos n)) ≡ (2 ^ 32 - n) % 2 ^ 32
spell_negative zero h = refl
spell_negative (suc n) h = omega arith

-- whether a word is negative, as its top bit says
abbrev pub HasSign : ℕ → Bool → Type 0
HasSign a true = 2 ^ 31 ≤ a
HasSign a false = a < 2 ^ 31

-- a word or its negation
abbrev pub negated_if : Bool → ℕ → ℕ
negated_if x a = if x then (2 ^ 32 - a) % 2 ^ 32 else a

abbrev pub quotient_or_zero : ℕ → ℕ → ℕ
quotient_or_zero a b = cond (nat_eq b 0) 0 (a / b)

abbrev pub remainder_or_zero : ℕ → ℕ → ℕ
remainder_or_zero a b = cond (nat_eq b 0) 0 (a % b)

quotient_fits : (a b : ℕ) → a < 2 ^ 32 → a / suc b < 2 ^ 32
quotient_fits a b h = grind arith

rest_fits : (a b : ℕ) → a < 2 ^ 32 → a % suc b < 2 ^ 32
rest_fits a b h = grind arith

-- the negation of a negative word is its magnitude
magnitude : (a : ℕ) → 2 ^ 31 ≤ a → a < 2 ^ 32 → (m : ℕ) × (suc m ≡ 2 ^ 32 - a) × (suc m < 2 ^ 32) × ((2 ^ 32 - a) % 2 ^ 32 ≡ suc m)
magnitude a h k = (2 ^ 32 - suc a, omega arith, omega arith, omega arith)

nonzero : (b : ℕ) → nat_eq (suc b) 0 ≡ false
nonzero b = grind (arith, nat_tests)

nothing_negated : (x : Bool) → negated_if x 0 ≡ 0
nothing_negated true = refl
nothing_negated false = refl

pub signed_quotient : (a b : ℕ) (x y : Bool) → a < 2 ^ 32 → b < 2 ^ 32 → HasSign a x → HasSign b y
    → negated_if (xor x y) (quotient_or_zero (negated_if x a) (negated_if y b)) ≡ quotient_int a b
unfolding the_xor
signed_quotient a zero x true h k p q = absurd (omega arith)
signed_quotient a zero x false h k p q = nothing_negated (xor x false)
signed_quotient a (suc b) false false h k p q = rw (small a p, small (suc b) q, nonzero b) refl
signed_quotient a (suc b) false true h k p q =
    let m = magnitude (suc b) q k in
    rw (small a p, large (suc b) m.0 q k m.1, m.3, nonzero b, nonzero m.0) (sym (spell_negative (a / suc m.0) (quotient_fits a m.0 h)))
signed_quotient a (suc b) true false h k p q =
    let n = magnitude a p h in
    rw (large a n.0 p h n.1, small (suc b) q, n.3, nonzero b) (sym (spell_negative (suc n.0 / suc b) (quotient_fits (suc n.0) b n.2)))
signed_quotient a (suc b) true true h k p q =
    let n = magnitude a p h in
    let m = magnitude (suc b) q k in
    rw (large a n.0 p h n.1, large (suc b) m.0 q k m.1, n.3, m.3, nonzero b, nonzero m.0) refl

pub signed_remainder : (a b : ℕ) (x y : Bool) → a < 2 ^ 32 → b < 2 ^ 32 → HasSign a x → HasSign b y
    → negated_if x (remainder_or_zero (negated_if x a) (negated_if y b)) ≡ remainder_int a b
signed_remainder a zero x true h k p q = absurd (omega arith)
signed_remainder a zero x false h k p q = nothing_negated x
signed_remainder a (suc b) false false h k p q = rw (small a p, small (suc b) q, nonzero b) refl
signed_remainder a (suc b) false true h k p q =
    let m = magnitude (suc b) q k in
    rw (small a p, large (suc b) m.0 q k m.1, m.3, nonzero b, nonzero m.0) refl
signed_remainder a (suc b) true false h k p q =
    let n = magnitude a p h in
    rw (large a n.0 p h n.1, small (suc b) q, n.3, nonzero b) (sym (spell_negative (suc n.0 % suc b) (rest_fits (suc n.0) b n.2)))
signed_remainder a (suc b) true true h k p q =
    let n = magnitude a p h in
    let m = magnitude (suc b) q k in
    rw (large a n.0 p h n.1, large (suc b) m.0 q k m.1, n.3, m.3, nonzero b, nonzero m.0) (sym (spell_negative (suc n.0 % suc m.0) (rest_fits (suc n.0) m.0 n.2)))

-- the shift that copies the sign
pub signed_shift : (a b : ℕ) (x : Bool) → a < 2 ^ 32 → HasSign a x → filled_shift x a (b % 32) ≡ shift_right_int a b
signed_shift a b false h p = rw (small a p) refl
signed_shift a b true h p =
    let m = 2 ^ 32 - suc a in
    let e : suc m ≡ 2 ^ 32 - a = omega arith in
    let same : 2 ^ 32 - 1 - a ≡ m = omega arith in
    rw (large a m p h e, same) (omega arith)

-- the order, with the sign bits flipped
pub flipped_less : (a b : ℕ) (x y : Bool) → a < 2 ^ 32 → b < 2 ^ 32 → HasSign a x → HasSign b y → nat_lt ((a + 2 ^ 31) % 2 ^ 32) ((b + 2 ^ 31) % 2 ^ 32) ≡ int_lt (int_of a) (int_of b)
flipped_less a b false false h k p q = rw (small a p, small b q) (grind (arith, nat_tests))
flipped_less a b false true h k p q =
    let e : suc (2 ^ 32 - suc b) ≡ 2 ^ 32 - b = omega arith in
    rw (small a p, large b (2 ^ 32 - suc b) q k e) (grind (arith, nat_tests))
flipped_less a b true false h k p q =
    let e : suc (2 ^ 32 - suc a) ≡ 2 ^ 32 - a = omega arith in
    rw (large a (2 ^ 32 - suc a) p h e, small b q) (grind (arith, nat_tests))
flipped_less a b true true h k p q =
    let e : suc (2 ^ 32 - suc a) ≡ 2 ^ 32 - a = omega arith in
    let f : suc (2 ^ 32 - suc b) ≡ 2 ^ 32 - b = omega arith in
    rw (large a (2 ^ 32 - suc a) p h e, large b (2 ^ 32 - suc b) q k f) (grind (arith, nat_tests))

-- the top bit is the sign
pub sign_of : (s : List Bool) (w : List Lit) (d : Lit) → length w ≡ 32 → HasSign (number s w) (value s (get_or w 31 d))
sign_of s w d long =
    let whole : number s w ≡ number s (take 31 w) + 2 ^ 31 * truth_of (value s (get_or w 31 d)) = ap (number s) (sym (take_all 32 w (omega arith))) ∙ number_more s w 31 d (omega arith) in
    let low = number_low s 31 w (omega arith) in
    by_bit (number s w) (number s (take 31 w)) (value s (get_or w 31 d)) whole low
  where
    by_bit : (n m : ℕ) (b : Bool) → n ≡ m + 2 ^ 31 * truth_of b → m < 2 ^ 31 → HasSign n b
    by_bit n m true e h = omega arith
    by_bit n m false e h = omega arith

-- a shift with the sign bit in the places above
pub shifted_int : (f g : Formula) (w a b : List Lit) (d : Lit) → length a ≡ 32 → IsWordGate f g w (λ s. filled_shift (value s (get_or a 31 d)) (number s a) (number s b % 32))
    → IsWordGate f g w (λ s. shift_right_int (number s a) (number s b))
shifted_int f g w a b d long gate =
    word_as f g w (λ s. filled_shift (value s (get_or a 31 d)) (number s a) (number s b % 32)) (λ s. shift_right_int (number s a) (number s b)) gate
    (λ s sat. signed_shift (number s a) (number s b) (value s (get_or a 31 d)) (word_fits s a long) (sign_of s a d long))

-- a word with its sign bit flipped
pub flipped_over : (n : ℕ) (w : List Lit) (l d : Lit) → l ≡ negated (get_or w 31 d) → IsWordOver n w → IsWordOver n (set w 31 l)
flipped_over n w l d e (long, over) = (
  length-set w 31 l ∙ long,
  All-set (IsOver n) w 31 l (subst (λ z. IsOver n z) (sym e) (over-negated n (get_or w 31 d) (All-get_or (IsOver n) w 31 d (omega arith) over))) over,
)

pub flipped_number : (s : List Bool) (w : List Lit) (l d : Lit) → length w ≡ 32 → l ≡ negated (get_or w 31 d) → number s (set w 31 l) ≡ (number s w + 2 ^ 31) % 2 ^ 32
flipped_number s w l d long e =
    let same = length-set w 31 l in
    let whole : number s w ≡ number s (take 31 w) + 2 ^ 31 * truth_of (value s (get_or w 31 d)) = ap (number s) (sym (take_all 32 w (omega arith))) ∙ number_more s w 31 d (omega arith) in
    let written : number s (set w 31 l) ≡ number s (take 31 w) + 2 ^ 31 * truth_of (value s l) = ap (number s) (sym (take_all 32 (set w 31 l) (omega arith))) ∙ number_written s w 31 l (omega arith) in
    let low = number_low s 31 w (omega arith) in
    let bit : value s l ≡ not (value s (get_or w 31 d)) = ap (value s) e ∙ value-negated s (get_or w 31 d) in
    written ∙ ap (λ z. number s (take 31 w) + 2 ^ 31 * truth_of z) bit ∙ by_bit (number s w) (number s (take 31 w)) (value s (get_or w 31 d)) whole low
  where
    by_bit : (n m : ℕ) (b : Bool) → n ≡ m + 2 ^ 31 * truth_of b → m < 2 ^ 31 → m + 2 ^ 31 * truth_of (not b) ≡ (n + 2 ^ 31) % 2 ^ 32
    by_bit n m true e h = omega arith
    by_bit n m false e h = omega arith

-- a comparison of flipped words
pub less_of_flipped : (f g : Formula) (a b x y : List Lit) (l d e : Lit) → length a ≡ 32 → length b ≡ 32
    → ((s : List Bool) → number s x ≡ (number s a + 2 ^ 31) % 2 ^ 32) → ((s : List Bool) → number s y ≡ (number s b + 2 ^ 31) % 2 ^ 32)
    → IsGate f g l (λ s. nat_lt (number s x) (number s y)) → IsGate f g l (λ s. int_lt (int_of (number s a)) (int_of (number s b)))
less_of_flipped f g a b x y l d e long_a long_b p q gate =
    gate_as f g l (λ s. nat_lt (number s x) (number s y)) (λ s. int_lt (int_of (number s a)) (int_of (number s b))) gate
    (λ s sat. ap (λ z. nat_lt z (number s y)) (p s) ∙ ap (λ z. nat_lt ((number s a + 2 ^ 31) % 2 ^ 32) z) (q s)
    ∙ flipped_less (number s a) (number s b) (value s (get_or a 31 d)) (value s (get_or b 31 e)) (word_fits s a long_a) (word_fits s b long_b) (sign_of s a d long_a) (sign_of s b e long_b))

-- a quotient of magnitudes with the sign of both
pub divided_int : (f g h k m n : Formula) (a b x y q r w : List Lit) (sign d e : Lit) → length a ≡ 32 → length b ≡ 32
    → IsWordGate f g x (λ s. if value s (get_or a 31 d) then (2 ^ 32 - number s a) % 2 ^ 32 else number s a)
    → IsWordGate g h y (λ s. if value s (get_or b 31 e) then (2 ^ 32 - number s b) % 2 ^ 32 else number s b)
    → IsDivision h k x y q r → IsGate k m sign (λ s. xor (value s (get_or a 31 d)) (value s (get_or b 31 e)))
    → IsWordGate m n w (λ s. if value s sign then (2 ^ 32 - number s q) % 2 ^ 32 else number s q)
    → IsWordGate f n w (λ s. quotient_int (number s a) (number s b))
divided_int f g h k m n a b x y q r w sign d e long_a long_b first second parts gate last = record {
  over = last.over;
  exact = λ s sat.
      let at_m = older m n s last.extends sat in
      let at_k = older k m s gate.extends at_m in
      let at_h = older h k s parts.extends at_k in
      let at_g = older g h s second.extends at_h in
      last.exact s sat ∙ ap (λ z. negated_if z (number s q)) (gate.exact s at_m)
      ∙ ap (negated_if (xor (value s (get_or a 31 d)) (value s (get_or b 31 e))))
      (parts.quotient_exact s at_k ∙ ap (λ z. quotient_or_zero z (number s y)) (first.exact s at_g)
      ∙ ap (λ z. quotient_or_zero (negated_if (value s (get_or a 31 d)) (number s a)) z) (second.exact s at_h))
      ∙ signed_quotient (number s a) (number s b) (value s (get_or a 31 d)) (value s (get_or b 31 e)) (word_fits s a long_a) (word_fits s b long_b) (sign_of s a d long_a) (sign_of s b e long_b);
  extends = extends_steps f g n first.extends (extends_steps g h n second.extends (extends_steps h k n parts.extends (extends_steps k m n gate.extends last.extends)));
}

-- a remainder of magnitudes with the sign of the dividend
pub remainder_of : (f g h k m : Formula) (a b x y q r w : List Lit) (d e : Lit) → length a ≡ 32 → length b ≡ 32
    → IsWordGate f g x (λ s. if value s (get_or a 31 d) then (2 ^ 32 - number s a) % 2 ^ 32 else number s a)
    → IsWordGate g h y (λ s. if value s (get_or b 31 e) then (2 ^ 32 - number s b) % 2 ^ 32 else number s b)
    → IsDivision h k x y q r
    → IsWordGate k m w (λ s. if value s (get_or a 31 d) then (2 ^ 32 - number s r) % 2 ^ 32 else number s r)
    → IsWordGate f m w (λ s. remainder_int (number s a) (number s b))
remainder_of f g h k m a b x y q r w d e long_a long_b first second parts last = record {
  over = last.over;
  exact = λ s sat.
      let at_k = older k m s last.extends sat in
      let at_h = older h k s parts.extends at_k in
      let at_g = older g h s second.extends at_h in
      last.exact s sat
      ∙ ap (negated_if (value s (get_or a 31 d)))
      (parts.remainder_exact s at_k ∙ ap (λ z. remainder_or_zero z (number s y)) (first.exact s at_g)
      ∙ ap (λ z. remainder_or_zero (negated_if (value s (get_or a 31 d)) (number s a)) z) (second.exact s at_h))
      ∙ signed_remainder (number s a) (number s b) (value s (get_or a 31 d)) (value s (get_or b 31 e)) (word_fits s a long_a) (word_fits s b long_b) (sign_of s a d long_a) (sign_of s b e long_b);
  extends = extends_steps f g m first.extends (extends_steps g h m second.extends (extends_steps h k m parts.extends last.extends));
}

-- a word or its negation, by a literal
pub negated_word : (f g h : Formula) (a negative w : List Lit) (sign : Lit) → IsWordGate f g negative (λ s. (2 ^ 32 - number s a) % 2 ^ 32)
    → IsWordGate g h w (λ s. if value s sign then number s negative else number s a) → IsWordGate f h w (λ s. if value s sign then (2 ^ 32 - number s a) % 2 ^ 32 else number s a)
negated_word f g h a negative w sign first second = record {
  over = second.over;
  exact = λ s sat. second.exact s sat ∙ ap (λ z. if value s sign then z else number s a) (first.exact s (older g h s second.extends sat));
  extends = extends_steps f g h first.extends second.extends;
}
