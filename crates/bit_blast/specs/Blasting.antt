-- Terms as words of literals.
use Rattle.std.specs.Prelude.{◌≡◌, ℕ, ◌<◌, ◌≤◌, List, [], ◌++◌, Bool, Some, length, slice_get, slice_index_or, All}
use Rattle.dg_base.specs.declared.Lit.{Lit}
use Rattle.dg_base.specs.declared.operators.Op.{Op}
use Rattle.dg_base.specs.Values.{operator}
use Rattle.bv_term.specs.declared.term.Term.{Term}
use Rattle.bv_term.specs.declared.term.Term.TheVariants.{Input, Constant, Apply}
use Rattle.bv_term.specs.Values.{AreWords, value as term_value}
use Rattle.cnf_problem.specs.Literals.{AreSatisfied}
use Rattle.cnf_problem.specs.Formulas.{Formula, Extension}
use Rattle.bit_gates.specs.Words.{number, IsWordOver, IsWordGate, AddsWord}

-- the literals of a term, by its number
abbrev pub word_at : List (List Lit) → ℕ → List Lit
word_at words n = slice_index_or words n []

-- the values that an assignment gives the inputs
abbrev pub inputs_under : List Bool → List (List Lit) → ℕ → ℕ
inputs_under s words n = number s (word_at words n)

-- each term's literals spell its value, under the inputs that are spelled
abbrev pub SpellsTerms : List Bool → List (List Lit) → List Term → Type 0
SpellsTerms s words terms = (n : ℕ) → n < length terms → number s (word_at words n) ≡ term_value (inputs_under s words) terms (record { 0 = n })

-- the literals of the inputs spell these values
abbrev pub SpellsInputs : List Bool → List (List Lit) → List Term → (ℕ → ℕ) → Type 0
SpellsInputs s words terms inputs = (n : ℕ) → slice_get terms n ≡ Some Input → number s (word_at words n) ≡ inputs n

-- an extension of an assignment that gives the inputs these values
pub record InputChoice (old new : Formula) (added : List (List Lit)) (terms : List Term) (words : List (List Lit)) (s : List Bool) (inputs : ℕ → ℕ) : Type 0 where
  pub more : List Bool
  pub extends : Extension old new added s more
  pub spelled : SpellsInputs (s ++ more) words terms inputs

-- words of literals for terms: exact in each assignment of the clauses, and free in the inputs
pub record Blasts (old new : Formula) (terms : List Term) (words : List (List Lit)) : Type 0 where
  pub count : length words ≡ length terms
  pub each : All (IsWordOver new.vars) words
  pub grows : old.vars ≤ new.vars
  pub added : List (List Lit)
  pub clauses : new.clauses ≡ old.clauses ++ added
  pub exact : (s : List Bool) → AreSatisfied s new.clauses → SpellsTerms s words terms
  pub free : (s : List Bool) (inputs : ℕ → ℕ) → length s ≡ old.vars → AreWords inputs → InputChoice old new added terms words s inputs

-- a word that spells the operator's value of three words
abbrev pub IsOperatorGate : Formula → Formula → Op → List Lit → List Lit → List Lit → List Lit → Type 0
IsOperatorGate old new op a b c w = IsWordGate old new w (λ s. operator op (number s a) (number s b) (number s c))

-- what the word of a term is, behind the words of those before it
abbrev pub IsTermWord : Formula → Formula → List (List Lit) → Term → List Lit → Type 0
IsTermWord old new words Input w = AddsWord old new w
IsTermWord old new words (Constant v) w = IsWordGate old new w (λ s. v)
IsTermWord old new words (Apply op a b c) w = IsOperatorGate old new op (word_at words a.0) (word_at words b.0) (word_at words c.0) w
