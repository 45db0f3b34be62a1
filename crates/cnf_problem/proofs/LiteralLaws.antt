-- Negation and truth values.
use Rattle.std.proofs.Common.{◌≡◌, ℕ, ◌+◌, ◌-◌, ◌*◌, ◌%◌, ◌⊎◌, inl, inr, Bool, true, false, not, eqb, List, get_or, refl, ap, sym, ◌∙◌, arith}
use Rattle.std.specs.Prelude.{if◌then◌else◌}
use Rattle.std.proofs.lemmas.Bool.{cases_eq, eqb-true}
use Rattle.std.proofs.lemmas.Bool.Decides.{nat_tests}
use Rattle.std.specs.Prelude.{bit_xor, bit_and}
use Rattle.std.specs.Int.Bits.{xor_add_and}
use Rattle.std.proofs.lemmas.Nat.{and_mask}
use Rattle.dg_base.specs.declared.Lit.{Lit}
use Rattle.cnf_problem.specs.Literals.{var, is_positive, negated, value}

-- literals with one code are one literal
pub same_lit : (a b : Lit) → a.0 ≡ b.0 → a ≡ b
same_lit a b e = ap (λ (n : ℕ). let l : Lit = record { 0 = n } in l) e

-- two literals are equal or they are not
pub lit_eq_or_not : (a b : Lit) → (a ≡ b) ⊎ (a ≡ b → ⊥)
lit_eq_or_not a b =
    elim (cases_eq a.0 b.0) [
      | inl e ↦ inl (same_lit a b e)
      | inr apart ↦ inr (λ e. apart (ap (λ (l : Lit). l.0) e))
    ]

-- the code of a negation
pub negated-code : (l : Lit) → (negated l).0 ≡ (if is_positive l then l.0 + 1 else l.0 - 1)
unfolding negated
negated-code l = refl

-- the negation of a variable
pub negated-even : (l : Lit) → l.0 % 2 ≡ 0 → (negated l).0 ≡ l.0 + 1
unfolding negated
negated-even l e = grind (arith, nat_tests)

-- the negation of a negation
pub negated-odd : (l : Lit) → l.0 % 2 ≡ 1 → (negated l).0 ≡ l.0 - 1
unfolding negated
negated-odd l e = grind (arith, nat_tests)

-- a number is even or odd
pub parity : (n : ℕ) → (n % 2 ≡ 0) ⊎ (n % 2 ≡ 1)
parity n = grind arith

-- a negation is of the same variable
pub var-negated : (l : Lit) → var (negated l) ≡ var l
var-negated l =
    elim (parity l.0) [
      | inl e ↦ rw (negated-even l e) (omega arith)
      | inr e ↦ rw (negated-odd l e) (omega arith)
    ]

-- negating twice changes nothing
pub negated-negated : (l : Lit) → negated (negated l) ≡ l
negated-negated l =
    elim (parity l.0) [
      | inl e ↦
          let n = negated-even l e in
          let odd : (negated l).0 % 2 ≡ 1 = rw n (omega arith) in
          same_lit (negated (negated l)) l (rw (negated-odd (negated l) odd, n) (omega arith))
      | inr e ↦
          let n = negated-odd l e in
          let even : (negated l).0 % 2 ≡ 0 = rw n (omega arith) in
          same_lit (negated (negated l)) l (rw (negated-even (negated l) even, n) (omega arith))
    ]

-- the value of a variable
pub value-even : (a : List Bool) (l : Lit) → l.0 % 2 ≡ 0 → value a l ≡ get_or a (var l - 1) false
unfolding value
value-even a l e = grind (arith, nat_tests)

-- the value of a negation
pub value-odd : (a : List Bool) (l : Lit) → l.0 % 2 ≡ 1 → value a l ≡ not (get_or a (var l - 1) false)
unfolding value
value-odd a l e = grind (arith, nat_tests)

-- a negation has the other value
pub value-negated : (a : List Bool) (l : Lit) → value a (negated l) ≡ not (value a l)
value-negated a l =
    elim (parity l.0) [
      | inl e ↦
          let n = negated-even l e in
          let odd : (negated l).0 % 2 ≡ 1 = rw n (omega arith) in
          rw (value-odd a (negated l) odd, value-even a l e, var-negated l)
      | inr e ↦
          let n = negated-odd l e in
          let even : (negated l).0 % 2 ≡ 0 = rw n (omega arith) in
          rw (value-even a (negated l) even, value-odd a l e, var-negated l) (sym (not_not (get_or a (var l - 1) false)))
    ]
  where
    not_not : (b : Bool) → not (not b) ≡ b
    not_not true = refl
    not_not false = refl

-- flipping the lowest bit of the code
pub negation_code : (l : Lit) → bit_xor l.0 1 ≡ (negated l).0
negation_code l =
    let x : bit_xor l.0 1 + bit_and l.0 1 * 2 ≡ l.0 + 1 = xor_add_and l.0 1 in
    let m : bit_and l.0 1 ≡ l.0 % 2 = and_mask l.0 1 in
    elim (parity l.0) [
      | inl e ↦ rw (negated-even l e) (omega arith)
      | inr e ↦ rw (negated-odd l e) (omega arith)
    ]

-- two codes that were tested to be equal
pub tested_same : (a b : Lit) (t : Bool) → t ≡ eqb a.0 b.0 → t ≡ true → a ≡ b
tested_same a b t e h = same_lit a b (eqb-true a.0 b.0 (sym e ∙ h))
