-- Adders.
use Rattle.std.proofs.Common.{◌≡◌, ℕ, ◌+◌, ◌-◌, ◌*◌, ◌%◌, ◌^◌, ◌<◌, true, List, map, length, take, set, get_or, ap, sym, ◌∙◌, arith}
use Rattle.std.specs.Prelude.{if◌then◌else◌, replicate}
use Rattle.std.specs.Bool.{xor}
use Rattle.std.proofs.lemmas.List.{take_all, length-set, length-replicate}
use Rattle.std.proofs.lemmas.List.Elements.{All-set, All-replicate}
use Rattle.dg_base.specs.declared.Lit.{Lit}
use Rattle.dg_base.specs.Values.{truth_of}
use Rattle.cnf_problem.specs.Literals.{value, negated, IsOver}
use Rattle.cnf_problem.specs.Formulas.{Formula, HasValue, IsGate}
use Rattle.cnf_problem.proofs.GateLaws.{extends_self, extends_steps}
use Rattle.bit_gates.specs.Words.{number, Spells, IsWordGate, IsBitSum, IsSum}
use Rattle.bit_gates.proofs.Arith.{sum_step, adder_bits, top_step, twice}
use Rattle.bit_gates.proofs.Numbers.{number_more, number_written, number_low, number-inverse}
use Rattle.bit_gates.proofs.Steps.{older, lit_more, all_more, word_as}

-- a full adder of three gates
pub full_adder : (f g h k : Formula) (a b c apart sum next : Lit) → IsGate f g apart (λ s. xor (value s a) (value s b)) → IsGate g h sum (λ s. xor (value s apart) (value s c))
    → IsGate h k next (λ s. if value s apart then value s c else value s a) → IsBitSum f k sum next a b c
full_adder f g h k a b c apart sum next first second third = record {
  sum_over = lit_more h k sum third.extends second.over;
  carry_over = third.over;
  exact = λ s sat.
      let at_h = older h k s third.extends sat in
      let x = first.exact s (older g h s second.extends at_h) in
      ap (λ z. truth_of z + 2 * truth_of (value s next)) (second.exact s at_h ∙ ap (λ z. xor z (value s c)) x)
      ∙ ap (λ z. truth_of (xor (xor (value s a) (value s b)) (value s c)) + 2 * truth_of z) (third.exact s sat ∙ ap (λ z. if z then value s c else value s a) x)
      ∙ adder_bits (value s a) (value s b) (value s c);
  extends = extends_steps f g k first.extends (extends_steps g h k second.extends third.extends);
}

-- no place is added yet
pub no_sum : (f : Formula) (a b : List Lit) (always carry : Lit) → IsOver f.vars always → IsOver f.vars carry
    → IsSum f f (replicate 32 always) carry 0 (λ s. number s (take 0 a) + number s (take 0 b) + truth_of (value s carry))
no_sum f a b always carry over carry_over = record {
  over = (length-replicate 32 always, All-replicate (IsOver f.vars) 32 always over);
  carry_over = carry_over;
  exact = λ s h. omega arith;
  extends = extends_self f;
}

-- one more place
pub sum_more : (f g h : Formula) (w a b : List Lit) (next carry sum behind d e : Lit) (i : ℕ) → i < 32 → length a ≡ 32 → length b ≡ 32
    → IsSum f g w next i (λ s. number s (take i a) + number s (take i b) + truth_of (value s carry)) → IsBitSum g h sum behind (get_or a i d) (get_or b i e) next
    → IsSum f h (set w i sum) behind (i + 1) (λ s. number s (take (i + 1) a) + number s (take (i + 1) b) + truth_of (value s carry))
sum_more f g h w a b next carry sum behind d e i within long_a long_b far place = record {
  over = (length-set w i sum ∙ far.over.0, All-set (IsOver h.vars) w i sum place.sum_over (all_more g h w place.extends far.over.1));
  carry_over = place.carry_over;
  exact = λ s sat.
      let long = far.over.0 in
      let before = far.exact s (older g h s place.extends sat) in
      let here = place.exact s sat in
      let step = sum_step (2 ^ i) (number s (take i w)) (truth_of (value s next)) (number s (take i a)) (number s (take i b)) (truth_of (value s carry))
      (truth_of (value s sum)) (truth_of (value s behind)) (truth_of (value s (get_or a i d))) (truth_of (value s (get_or b i e))) before here in
      rw (number_written s w i sum (omega arith), number_more s a i d (omega arith), number_more s b i e (omega arith), twice i) step;
  extends = extends_steps f g h far.extends place.extends;
}

-- the top place, without its carry
pub top_sum : (f g h k : Formula) (w a b : List Lit) (next carry apart top d e : Lit) → length a ≡ 32 → length b ≡ 32
    → IsSum f g w next 31 (λ s. number s (take 31 a) + number s (take 31 b) + truth_of (value s carry))
    → IsGate g h apart (λ s. xor (value s (get_or a 31 d)) (value s (get_or b 31 e))) → IsGate h k top (λ s. xor (value s apart) (value s next))
    → IsWordGate f k (set w 31 top) (λ s. (number s a + number s b + truth_of (value s carry)) % 2 ^ 32)
top_sum f g h k w a b next carry apart top d e long_a long_b low first second = record {
  over = (length-set w 31 top ∙ low.over.0, All-set (IsOver k.vars) w 31 top second.over (all_more h k w second.extends (all_more g h w first.extends low.over.1)));
  exact = λ s sat.
      let long = low.over.0 in
      let same = length-set w 31 top in
      let at_h = older h k s second.extends sat in
      let bit : value s top ≡ xor (xor (value s (get_or a 31 d)) (value s (get_or b 31 e))) (value s next) = second.exact s sat ∙ ap (λ z. xor z (value s next)) (first.exact s at_h) in
      let sum = low.exact s (older g h s first.extends at_h) in
      let whole_a : number s a ≡ number s (take 31 a) + 2 ^ 31 * truth_of (value s (get_or a 31 d)) = ap (number s) (sym (take_all 32 a (omega arith))) ∙ number_more s a 31 d (omega arith) in
      let whole_b : number s b ≡ number s (take 31 b) + 2 ^ 31 * truth_of (value s (get_or b 31 e)) = ap (number s) (sym (take_all 32 b (omega arith))) ∙ number_more s b 31 e (omega arith) in
      let whole : number s (set w 31 top) ≡ number s (take 31 w) + 2 ^ 31 * truth_of (value s top) = ap (number s) (sym (take_all 32 (set w 31 top) (omega arith))) ∙ number_written s w 31 top (omega arith) in
      let below = number_low s 31 w (omega arith) in
      let step = top_step (number s (take 31 w)) (number s (take 31 a)) (number s (take 31 b)) (truth_of (value s carry)) (value s (get_or a 31 d)) (value s (get_or b 31 e)) (value s next) below sum in
      whole ∙ ap (λ z. number s (take 31 w) + 2 ^ 31 * truth_of z) bit ∙ step
      ∙ ap (λ z. (z + (number s (take 31 b) + 2 ^ 31 * truth_of (value s (get_or b 31 e))) + truth_of (value s carry)) % 2 ^ 32) (sym whole_a)
      ∙ ap (λ z. (number s a + z + truth_of (value s carry)) % 2 ^ 32) (sym whole_b);
  extends = extends_steps f g k low.extends (extends_steps g h k first.extends second.extends);
}

-- the sum with an inverse and 1 is the difference
pub difference : (f g : Formula) (w a b n : List Lit) (carry : Lit) → length b ≡ 32 → n ≡ map negated b → HasValue f.clauses carry (λ _. true)
    → IsWordGate f g w (λ s. (number s a + number s n + truth_of (value s carry)) % 2 ^ 32)
    → IsWordGate f g w (λ s. (number s a + (2 ^ 32 - number s b)) % 2 ^ 32)
difference f g w a b n carry long e k gate =
    word_as f g w (λ s. (number s a + number s n + truth_of (value s carry)) % 2 ^ 32) (λ s. (number s a + (2 ^ 32 - number s b)) % 2 ^ 32) gate
    (λ s sat.
    let one : truth_of (value s carry) ≡ 1 = ap truth_of (k s (older f g s gate.extends sat)) in
    let inverse : number s n + number s b + 1 ≡ 2 ^ 32 = ap (λ z. number s z + number s b + 1) e ∙ number-inverse s b ∙ ap (λ z. 2 ^ z) long in
    ap (λ z. z % 2 ^ 32) (omega arith))

-- the difference from 0
pub from_zero : (f g : Formula) (w z a : List Lit) → Spells f.clauses z (λ _. 0)
    → IsWordGate f g w (λ s. (number s z + (2 ^ 32 - number s a)) % 2 ^ 32) → IsWordGate f g w (λ s. (2 ^ 32 - number s a) % 2 ^ 32)
from_zero f g w z a zero gate =
    word_as f g w (λ s. (number s z + (2 ^ 32 - number s a)) % 2 ^ 32) (λ s. (2 ^ 32 - number s a) % 2 ^ 32) gate
    (λ s sat. ap (λ n. (n + (2 ^ 32 - number s a)) % 2 ^ 32) (zero s (older f g s gate.extends sat)) ∙ ap (λ n. n % 2 ^ 32) (omega arith))
