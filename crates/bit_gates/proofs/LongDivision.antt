-- Long division, bit by bit.
use Rattle.std.proofs.Common.{◌≡◌, ℕ, ◌+◌, ◌-◌, ◌*◌, ◌^◌, ◌<◌, Bool, true, ◌||◌, List, ◌∷◌, map, length, take, drop, set, get_or, ap, sym, ◌∙◌, arith}
use Rattle.std.specs.Prelude.{if◌then◌else◌, nat_lt}
use Rattle.std.proofs.lemmas.List.{take_all, drop_all, length-set, length-map}
use Rattle.std.proofs.lemmas.List.Elements.{All-set}
use Rattle.dg_base.specs.declared.Lit.{Lit}
use Rattle.dg_base.specs.Values.{truth_of}
use Rattle.cnf_problem.specs.Literals.{value, negated, IsOver, AreSatisfied}
use Rattle.cnf_problem.specs.Formulas.{Formula, HasValue, Extends, IsGate}
use Rattle.cnf_problem.proofs.GateLaws.{extends_self, extends_steps}
use Rattle.bit_gates.specs.Words.{number, IsWordOver, Spells, IsWordGate, IsSum, IsDivisionStep, IsLongDivision, IsDivision}
use Rattle.bit_gates.proofs.Arith.{restore, quotient_step, quotient_is, remainder_is}
use Rattle.bit_gates.proofs.Numbers.{truth_below, number_more, number_from, number_from_written, number-inverse}
use Rattle.bit_gates.proofs.Steps.{older, lit_more, all_more, word_more}
use Rattle.bit_gates.proofs.Shifts.{word_fits}

-- one step: the longer remainder, the difference, the quotient's bit, the choice
pub divided_step : (f g h k : Formula) (before longer inverse rest b behind : List Lit) (next always carry bit d : Lit)
    → length before ≡ 32 → length b ≡ 32 → length longer ≡ 32 → longer ≡ next ∷ take 31 before → inverse ≡ map negated b → HasValue f.clauses always (λ _. true)
    → IsSum f g rest carry 32 (λ s. number s (take 32 longer) + number s (take 32 inverse) + truth_of (value s always))
    → IsGate g h bit (λ s. value s (get_or before 31 d) || value s carry)
    → IsWordGate h k behind (λ s. if value s bit then number s rest else number s longer)
    → IsDivisionStep f k before next b bit behind
divided_step f g h k before longer inverse rest b behind next always carry bit d long long_b long_l e n ones difference top choice = record {
  bit_over = lit_more h k bit choice.extends top.over;
  over = choice.over;
  exact = λ s sat below.
      let at_h = older h k s choice.extends sat in
      let at_g = older g h s top.extends at_h in
      let at_f = older f g s difference.extends at_g in
      let rest_long = difference.over.0 in
      let one : truth_of (value s always) ≡ 1 = ap truth_of (ones s at_f) in
      let inverse_long : length inverse ≡ 32 = ap length n ∙ length-map b negated ∙ long_b in
      let inverted : number s inverse + number s b + 1 ≡ 2 ^ 32 = ap (λ z. number s z + number s b + 1) n ∙ number-inverse s b ∙ ap (λ z. 2 ^ z) long_b in
      let sum : number s rest + 2 ^ 32 * truth_of (value s carry) ≡ number s longer + number s inverse + truth_of (value s always) =
      ap (λ z. number s z + 2 ^ 32 * truth_of (value s carry)) (sym (take_all 32 rest (omega arith))) ∙ difference.exact s at_g
      ∙ ap (λ z. number s z + number s (take 32 inverse) + truth_of (value s always)) (take_all 32 longer (omega arith))
      ∙ ap (λ z. number s longer + number s z + truth_of (value s always)) (take_all 32 inverse (omega arith)) in
      let whole : number s before ≡ number s (take 31 before) + 2 ^ 31 * truth_of (value s (get_or before 31 d)) = ap (number s) (sym (take_all 32 before (omega arith))) ∙ number_more s before 31 d (omega arith) in
      let moved : number s longer ≡ truth_of (value s next) + 2 * number s (take 31 before) = ap (number s) e in
      let fits_rest = word_fits s rest rest_long in
      let fits_longer = word_fits s longer long_l in
      let fits_b = word_fits s b long_b in
      let small = truth_below (value s next) in
      let step = restore (number s before) (truth_of (value s next)) (number s b) (number s longer) (number s rest) (value s (get_or before 31 d)) (value s carry)
      (omega arith) (omega arith) fits_rest fits_longer fits_b below small in
      let is_bit : value s bit ≡ (value s (get_or before 31 d) || value s carry) = top.exact s at_h in
      let is_behind : number s behind ≡ (if value s (get_or before 31 d) || value s carry then number s rest else number s longer) = choice.exact s sat ∙ ap (λ z. if z then number s rest else number s longer) is_bit in
      rw (is_bit, is_behind) step;
  extends = extends_steps f g k difference.extends (extends_steps g h k top.extends choice.extends);
}

-- the first so many steps of a division, from the top bit
pub record DividedSoFar (f g : Formula) (a b quotient remainder : List Lit) (i : ℕ) : Type 0 where
  pub quotient_over : IsWordOver g.vars quotient
  pub remainder_over : IsWordOver g.vars remainder
  pub exact : (s : List Bool) → AreSatisfied s g.clauses → 0 < number s b
      → (number s (drop (32 - i) a) ≡ number s (drop (32 - i) quotient) * number s b + number s remainder) × (number s remainder < number s b)
  pub extends : Extends f g

pub none_divided : (f : Formula) (a b quotient remainder : List Lit) → length a ≡ 32 → IsWordOver f.vars quotient → IsWordOver f.vars remainder → Spells f.clauses remainder (λ _. 0)
    → DividedSoFar f f a b quotient remainder 0
none_divided f a b quotient remainder long_a over_q over_r none = record {
  quotient_over = over_q;
  remainder_over = over_r;
  exact = λ s sat some.
      let long_q = over_q.0 in
      let nothing : number s (drop 32 a) ≡ 0 = ap (number s) (drop_all 32 a (omega arith)) in
      let no_quotient : number s (drop 32 quotient) ≡ 0 = ap (number s) (drop_all 32 quotient (omega arith)) in
      let zero = none s sat in
      (nothing ∙ start (number s b) (number s remainder) zero ∙ ap (λ z. z * number s b + number s remainder) (sym no_quotient), omega arith);
  extends = extends_self f;
}
  where
    start : (b r : ℕ) → r ≡ 0 → 0 ≡ 0 * b + r
    start b r e = omega arith

pub divided_more : (f g h : Formula) (a b quotient remainder behind : List Lit) (bit d : Lit) (i place : ℕ) → i < 32 → place ≡ 31 - i → length a ≡ 32
    → DividedSoFar f g a b quotient remainder i → IsDivisionStep g h remainder (get_or a place d) b bit behind
    → DividedSoFar f h a b (set quotient place bit) behind (i + 1)
divided_more f g h a b quotient remainder behind bit d i place within at long_a far step = record {
  quotient_over = (length-set quotient place bit ∙ far.quotient_over.0, All-set (IsOver h.vars) quotient place bit step.bit_over (all_more g h quotient step.extends far.quotient_over.1));
  remainder_over = step.over;
  exact = λ s sat some.
      let long_q = far.quotient_over.0 in
      let before = far.exact s (older g h s step.extends sat) some in
      let here = step.exact s sat before.1 in
      let from : 32 - (i + 1) ≡ place = omega arith in
      let next : 32 - i ≡ place + 1 = omega arith in
      let A : number s (drop (place + 1) a) ≡ number s (drop (place + 1) quotient) * number s b + number s remainder = rw (← next) before.0 in (
        rw (from, number_from s a place d (omega arith), number_from_written s quotient place bit (omega arith))
            (quotient_step (number s (drop (place + 1) a)) (number s (drop (place + 1) quotient)) (number s b) (number s remainder) (truth_of (value s (get_or a place d))) (truth_of (value s bit)) (number s behind) A here.0),
        here.1,
      );
  extends = extends_steps f g h far.extends step.extends;
}

pub divided : (f g : Formula) (a b quotient remainder : List Lit) (i : ℕ) → i ≡ 32 → DividedSoFar f g a b quotient remainder i → IsLongDivision f g a b quotient remainder
divided f g a b quotient remainder i e far = record {
  quotient_over = far.quotient_over;
  remainder_over = far.remainder_over;
  exact = λ s sat some. let none : 32 - i ≡ 0 = omega arith in rw none at (far.exact s sat some);
  extends = far.extends;
}

-- 0 in place of both where the divisor is 0
pub division_made : (f g h k m : Formula) (a b zero quotient remainder q r : List Lit) (some : Lit) → Spells f.clauses zero (λ _. 0)
    → IsGate f g some (λ s. nat_lt 0 (number s b)) → IsLongDivision g h a b quotient remainder
    → IsWordGate h k q (λ s. if value s some then number s quotient else number s zero)
    → IsWordGate k m r (λ s. if value s some then number s remainder else number s zero)
    → IsDivision f m a b q r
division_made f g h k m a b zero quotient remainder q r some none test parts first second = record {
  quotient_over = word_more k m q second.extends first.over;
  remainder_over = second.over;
  quotient_exact = λ s sat.
      let at_k = older k m s second.extends sat in
      let at_h = older h k s first.extends at_k in
      let at_g = older g h s parts.extends at_h in
      first.exact s at_k ∙ ap (λ z. if z then number s quotient else number s zero) (test.exact s at_g)
      ∙ ap (λ z. if nat_lt 0 (number s b) then number s quotient else z) (none s (older f g s test.extends at_g))
      ∙ quotient_is (number s a) (number s b) (number s quotient) (number s remainder) (parts.exact s at_h);
  remainder_exact = λ s sat.
      let at_k = older k m s second.extends sat in
      let at_h = older h k s first.extends at_k in
      let at_g = older g h s parts.extends at_h in
      second.exact s sat ∙ ap (λ z. if z then number s remainder else number s zero) (test.exact s at_g)
      ∙ ap (λ z. if nat_lt 0 (number s b) then number s remainder else z) (none s (older f g s test.extends at_g))
      ∙ remainder_is (number s a) (number s b) (number s quotient) (number s remainder) (parts.exact s at_h);
  extends = extends_steps f g m test.extends (extends_steps g h m parts.extends (extends_steps h k m first.extends second.extends));
}
