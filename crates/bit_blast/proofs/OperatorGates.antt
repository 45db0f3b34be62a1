-- The operators by the gates that compute them.
use Rattle.std.proofs.Common.{◌≡◌, ℕ, ◌+◌, ◌-◌, ◌/◌, ◌%◌, ◌^◌, Bool, true, false, not, ◌&&◌, ◌||◌, List, map, refl, ap, sym, ◌∙◌, subst, arith}
use Rattle.std.specs.Prelude.{ℤ, pos, negsuc, if◌then◌else◌, cond, nat_eq, nat_lt, nat_le, int_lt, int_le}
use Rattle.std.proofs.lemmas.Bool.Decides.{nat_tests}
use Rattle.dg_base.specs.declared.Lit.{Lit}
use Rattle.dg_base.specs.Values.{truth_of, is_true}
use Rattle.cnf_problem.specs.Literals.{value, negated, IsOver}
use Rattle.cnf_problem.specs.Formulas.{Formula, HasValue, IsGate}
use Rattle.cnf_problem.proofs.Assignments.{over-negated}
use Rattle.cnf_problem.proofs.GateLaws.{extends_steps}
use Rattle.cnf_problem.proofs.LiteralLaws.{value-negated}
use Rattle.bit_gates.specs.Words.{number, filled_shift, IsWordOver, Spells, IsWordGate, IsDivision}
use Rattle.bit_gates.proofs.Numbers.{number-inverse}
use Rattle.bit_gates.proofs.Steps.{older, inverse_over, word_as, word_of_older}

-- a word that spells whether a gate is true
pub flagged : (f g : Formula) (w : List Lit) (l : Lit) (b c : List Bool → Bool) → IsGate f g l b → IsWordOver g.vars w → Spells g.clauses w (λ s. truth_of (value s l))
    → ((s : List Bool) → b s ≡ c s) → IsWordGate f g w (λ s. truth_of (c s))
flagged f g w l b c gate over exact same = record {
  over = over;
  exact = λ s sat. exact s sat ∙ ap truth_of (gate.exact s sat ∙ same s);
  extends = gate.extends;
}

-- and one that spells whether it is not
pub flagged_not : (f g : Formula) (w : List Lit) (l n : Lit) (b c : List Bool → Bool) → n ≡ negated l → IsGate f g l b → IsWordOver g.vars w → Spells g.clauses w (λ s. truth_of (value s n))
    → ((s : List Bool) → not (b s) ≡ c s) → IsWordGate f g w (λ s. truth_of (c s))
flagged_not f g w l n b c e gate over exact same = record {
  over = over;
  exact = λ s sat. exact s sat ∙ ap truth_of (ap (value s) e ∙ value-negated s l ∙ ap not (gate.exact s sat) ∙ same s);
  extends = gate.extends;
}

pub opposite_over : (n : ℕ) (l o : Lit) → o ≡ negated l → IsOver n l → IsOver n o
opposite_over n l o e over = subst (λ z. IsOver n z) (sym e) (over-negated n l over)

-- tests and their negations
pub not_less : (a b : ℕ) → not (nat_lt b a) ≡ nat_le a b
not_less a b = grind (arith, nat_tests)

pub not_less_int : (x y : ℤ) → not (int_lt y x) ≡ int_le x y
not_less_int (pos a) (pos b) = grind (arith, nat_tests)
not_less_int (pos a) (negsuc b) = refl
not_less_int (negsuc a) (pos b) = refl
not_less_int (negsuc a) (negsuc b) = grind (arith, nat_tests)

pub some_is_true : (a : ℕ) → nat_lt 0 a ≡ is_true a
some_is_true a = grind (arith, nat_tests)

-- a disjunction by negations
pub not_both_not : (a b : Bool) → not (not a && not b) ≡ (a || b)
not_both_not true b = refl
not_both_not false true = refl
not_both_not false false = refl

-- neither word is 0, or both are
pub both_gate : (f g h k : Formula) (a b : List Lit) (x y l : Lit) → IsGate f g x (λ s. nat_lt 0 (number s a)) → IsGate g h y (λ s. nat_lt 0 (number s b))
    → IsGate h k l (λ s. value s x && value s y) → IsGate f k l (λ s. is_true (number s a) && is_true (number s b))
both_gate f g h k a b x y l first second gate = record {
  over = gate.over;
  exact = λ s sat.
      let at_h = older h k s gate.extends sat in
      gate.exact s sat
      ∙ ap (λ z. z && value s y) (first.exact s (older g h s second.extends at_h) ∙ some_is_true (number s a))
      ∙ ap (λ z. is_true (number s a) && z) (second.exact s at_h ∙ some_is_true (number s b));
  extends = extends_steps f g k first.extends (extends_steps g h k second.extends gate.extends);
}

pub neither_gate : (f g h k : Formula) (a b : List Lit) (x y n m l : Lit) → n ≡ negated x → m ≡ negated y → IsGate f g x (λ s. nat_lt 0 (number s a)) → IsGate g h y (λ s. nat_lt 0 (number s b))
    → IsGate h k l (λ s. value s n && value s m) → IsGate f k l (λ s. not (is_true (number s a)) && not (is_true (number s b)))
neither_gate f g h k a b x y n m l p q first second gate = record {
  over = gate.over;
  exact = λ s sat.
      let at_h = older h k s gate.extends sat in
      gate.exact s sat
      ∙ ap (λ z. z && value s m) (ap (value s) p ∙ value-negated s x ∙ ap not (first.exact s (older g h s second.extends at_h) ∙ some_is_true (number s a)))
      ∙ ap (λ z. not (is_true (number s a)) && z) (ap (value s) q ∙ value-negated s y ∙ ap not (second.exact s at_h ∙ some_is_true (number s b)));
  extends = extends_steps f g k first.extends (extends_steps g h k second.extends gate.extends);
}

-- the sum with a false carry
pub sum_without_carry : (f g : Formula) (w a b : List Lit) (off : Lit) → HasValue f.clauses off (λ _. false)
    → IsWordGate f g w (λ s. (number s a + number s b + truth_of (value s off)) % 2 ^ 32) → IsWordGate f g w (λ s. (number s a + number s b) % 2 ^ 32)
sum_without_carry f g w a b off never gate =
    word_as f g w (λ s. (number s a + number s b + truth_of (value s off)) % 2 ^ 32) (λ s. (number s a + number s b) % 2 ^ 32) gate
    (λ s sat. ap (λ z. (number s a + number s b + truth_of z) % 2 ^ 32) (never s (older f g s gate.extends sat)) ∙ ap (λ n. n % 2 ^ 32) (omega arith))

-- the parts of a division
pub quotient_word : (f g : Formula) (a b q r : List Lit) → IsDivision f g a b q r → IsWordGate f g q (λ s. cond (nat_eq (number s b) 0) 0 (number s a / number s b))
quotient_word f g a b q r parts = record { over = parts.quotient_over; exact = parts.quotient_exact; extends = parts.extends }

pub remainder_word : (f g : Formula) (a b q r : List Lit) → IsDivision f g a b q r → IsWordGate f g r (λ s. cond (nat_eq (number s b) 0) 0 (number s a % number s b))
remainder_word f g a b q r parts = record { over = parts.remainder_over; exact = parts.remainder_exact; extends = parts.extends }

-- a shift with a false literal in the places above
pub shifted_uint : (f g : Formula) (w a b : List Lit) (off : Lit) → HasValue f.clauses off (λ _. false) → IsWordGate f g w (λ s. filled_shift (value s off) (number s a) (number s b % 32))
    → IsWordGate f g w (λ s. number s a / 2 ^ (number s b % 32))
shifted_uint f g w a b off never gate =
    word_as f g w (λ s. filled_shift (value s off) (number s a) (number s b % 32)) (λ s. number s a / 2 ^ (number s b % 32)) gate
    (λ s sat. ap (λ z. filled_shift z (number s a) (number s b % 32)) (never s (older f g s gate.extends sat)))

-- the inverse
pub inverse_word : (f : Formula) (w inverse : List Lit) → IsWordOver f.vars w → inverse ≡ map negated w → IsWordGate f f inverse (λ s. 2 ^ 32 - 1 - number s w)
inverse_word f w inverse over e = word_of_older f inverse (λ s. 2 ^ 32 - 1 - number s w) (inverse_over f.vars w inverse over e)
    (λ s sat.
    let sum : number s inverse + number s w + 1 ≡ 2 ^ 32 = ap (λ z. number s z + number s w + 1) e ∙ number-inverse s w ∙ ap (λ n. 2 ^ n) over.0 in
    omega arith)

-- the choice by a word
pub chosen_word : (f g h : Formula) (a b c w : List Lit) (some : Lit) → IsGate f g some (λ s. nat_lt 0 (number s a)) → IsWordGate g h w (λ s. if value s some then number s b else number s c)
    → IsWordGate f h w (λ s. cond (is_true (number s a)) (number s b) (number s c))
chosen_word f g h a b c w some first second = record {
  over = second.over;
  exact = λ s sat.
      second.exact s sat
      ∙ ap (λ z. cond z (number s b) (number s c)) (first.exact s (older g h s second.extends sat) ∙ some_is_true (number s a));
  extends = extends_steps f g h first.extends second.extends;
}
