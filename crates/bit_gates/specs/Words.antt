-- Numbers spelled by literals, and gates that make them.
use Rattle.std.specs.Prelude.{◌≡◌, ℕ, ◌+◌, ◌-◌, ◌*◌, ◌/◌, ◌%◌, ◌^◌, ◌<◌, ◌≤◌, List, [], ◌∷◌, ◌++◌, Bool, true, false, cond, nat_eq, length, take, All, ◌&&◌, ◌||◌, bit_and, bit_or, bit_xor}
use Rattle.std.specs.Bool.{xor}
use Rattle.dg_base.specs.declared.Lit.{Lit}
use Rattle.dg_base.specs.Values.{truth_of}
use Rattle.bit_gates.specs.declared.bits.BitKind.{BitKind}
use Rattle.bit_gates.specs.declared.bits.BitKind.TheVariants.{And, Or, Xor}
use Rattle.cnf_problem.specs.Literals.{value, IsOver, AreSatisfied}
use Rattle.cnf_problem.specs.Formulas.{Formula, Extends, Extension}

-- the number that literals spell under an assignment, the least bit first
abbrev pub number : List Bool → List Lit → ℕ
number s [] = 0
number s (l ∷ ls) = truth_of (value s l) + 2 * number s ls

-- a word: 32 literals over so many variables
abbrev pub IsWordOver : ℕ → List Lit → Type 0
IsWordOver vars w = (length w ≡ 32) × All (IsOver vars) w

-- the literals spell this number in each assignment of the clauses
abbrev pub Spells : List (List Lit) → List Lit → (List Bool → ℕ) → Type 0
Spells clauses w f = (s : List Bool) → AreSatisfied s clauses → number s w ≡ f s

-- a word of gates: it spells the number, and the clauses that say so bind no older variable
pub record IsWordGate (old new : Formula) (w : List Lit) (f : List Bool → ℕ) : Type 0 where
  pub over : IsWordOver new.vars w
  pub exact : Spells new.clauses w f
  pub extends : Extends old new

-- the two literals spell the sum of three bits
pub record IsBitSum (old new : Formula) (sum carry a b c : Lit) : Type 0 where
  pub sum_over : IsOver new.vars sum
  pub carry_over : IsOver new.vars carry
  pub exact : (s : List Bool) → AreSatisfied s new.clauses
      → truth_of (value s sum) + 2 * truth_of (value s carry) ≡ truth_of (value s a) + truth_of (value s b) + truth_of (value s c)
  pub extends : Extends old new

-- the first so many literals of a word and a carry spell the number
pub record IsSum (old new : Formula) (w : List Lit) (carry : Lit) (bits : ℕ) (f : List Bool → ℕ) : Type 0 where
  pub over : IsWordOver new.vars w
  pub carry_over : IsOver new.vars carry
  pub exact : (s : List Bool) → AreSatisfied s new.clauses → number s (take bits w) + 2 ^ bits * truth_of (value s carry) ≡ f s
  pub extends : Extends old new

-- a word of new variables, on which no clause is put: it may spell any number
pub record AddsWord (old new : Formula) (w : List Lit) : Type 0 where
  pub over : IsWordOver new.vars w
  pub grows : old.vars ≤ new.vars
  pub clauses : new.clauses ≡ old.clauses
  pub choice : (s : List Bool) (n : ℕ) → length s ≡ old.vars → n < 2 ^ 32
      → (more : List Bool) × Extension old new [] s more × (number (s ++ more) w ≡ n)

-- what a bitwise operator makes of two bits
abbrev pub bit_of : BitKind → Bool → Bool → Bool
bit_of And a b = a && b
bit_of Or a b = a || b
bit_of Xor a b = xor a b

-- and of two numbers
abbrev pub word_of : BitKind → ℕ → ℕ → ℕ
word_of And a b = bit_and a b
word_of Or a b = bit_or a b
word_of Xor a b = bit_xor a b

-- a number of 32 bits moved down by so many places, with this bit in the places above: where it is 1, the inverse moved down with 0 is the inverse
abbrev pub filled_shift : Bool → ℕ → ℕ → ℕ
filled_shift true n k = 2 ^ 32 - 1 - (2 ^ 32 - 1 - n) / 2 ^ k
filled_shift false n k = n / 2 ^ k

-- one step of a division: the remainder with a further bit is the divisor times the quotient's bit and a remainder that is again below the divisor
pub record IsDivisionStep (old new : Formula) (before : List Lit) (next : Lit) (b : List Lit) (bit : Lit) (behind : List Lit) : Type 0 where
  pub bit_over : IsOver new.vars bit
  pub over : IsWordOver new.vars behind
  pub exact : (s : List Bool) → AreSatisfied s new.clauses → number s before < number s b
      → (2 * number s before + truth_of (value s next) ≡ truth_of (value s bit) * number s b + number s behind) × (number s behind < number s b)
  pub extends : Extends old new

-- the quotient and the remainder where the divisor isn't 0
pub record IsLongDivision (old new : Formula) (a b quotient remainder : List Lit) : Type 0 where
  pub quotient_over : IsWordOver new.vars quotient
  pub remainder_over : IsWordOver new.vars remainder
  pub exact : (s : List Bool) → AreSatisfied s new.clauses → 0 < number s b
      → (number s a ≡ number s quotient * number s b + number s remainder) × (number s remainder < number s b)
  pub extends : Extends old new

-- the quotient and the remainder, 0 where the divisor is
pub record IsDivision (old new : Formula) (a b quotient remainder : List Lit) : Type 0 where
  pub quotient_over : IsWordOver new.vars quotient
  pub remainder_over : IsWordOver new.vars remainder
  pub quotient_exact : Spells new.clauses quotient (λ s. cond (nat_eq (number s b) 0) 0 (number s a / number s b))
  pub remainder_exact : Spells new.clauses remainder (λ s. cond (nat_eq (number s b) 0) 0 (number s a % number s b))
  pub extends : Extends old new
