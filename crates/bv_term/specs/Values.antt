-- What terms are, and their values under inputs.
use Rattle.std.specs.Prelude.{◌≡◌, ℕ, ◌<◌, ◌^◌, ⊤, List, [], ◌∷◌, ◌++◌, length, map, Some, slice_get, slice_index, slice_index_or}
use Rattle.dg_base.specs.declared.operators.Op.{Op}
use Rattle.dg_base.specs.Values.{operator, value_of}
use Rattle.bv_term.specs.declared.term.TermId.{TermId}
use Rattle.bv_term.specs.declared.term.Term.{Term}
use Rattle.bv_term.specs.declared.term.Term.TheVariants.{Input, Constant, Apply}

-- the term is one of these
abbrev pub IsListed : List Term → TermId → Type 0
IsListed terms t = t.0 < length terms

-- the arguments are among the first so many terms, and a constant fits 32 bits
abbrev pub IsBehind : ℕ → Term → Type 0
IsBehind n Input = ⊤
IsBehind n (Constant v) = v < 2 ^ 32
IsBehind n (Apply op a b c) = (a.0 < n) × (b.0 < n) × (c.0 < n)

-- each term stands behind its arguments
abbrev pub AreTerms : List Term → Type 0
AreTerms terms = (n : ℕ) → n < length terms → IsBehind n (slice_index_or terms n Input)

-- a value for each input, by the input's number, that fits 32 bits
abbrev pub AreWords : (ℕ → ℕ) → Type 0
AreWords inputs = (n : ℕ) → inputs n < 2 ^ 32

-- the value of a term, from the values of the terms before it
abbrev pub value_behind : (ℕ → ℕ) → List ℕ → Term → ℕ
value_behind inputs before Input = inputs (length before)
value_behind inputs before (Constant v) = v
value_behind inputs before (Apply op a b c) = operator op (slice_index before a.0) (slice_index before b.0) (slice_index before c.0)

-- the values of these terms in turn, behind the values of those before them
abbrev pub values_from : (ℕ → ℕ) → List ℕ → List Term → List ℕ
values_from inputs before [] = before
values_from inputs before (t ∷ ts) = values_from inputs (before ++ value_behind inputs before t ∷ []) ts

-- the value of a term under inputs
unfoldable pub value : (ℕ → ℕ) → List Term → TermId → ℕ
value inputs terms t = slice_index (values_from inputs [] terms) t.0

-- under all inputs the term has the operator's value of the arguments' values
abbrev pub Computes : List Term → TermId → Op → List TermId → Type 0
Computes terms t op args = (inputs : ℕ → ℕ) → AreWords inputs → value inputs terms t ≡ value_of op (map (value inputs terms) args)

-- the term is this constant
abbrev pub IsConstant : List Term → TermId → ℕ → Type 0
IsConstant terms t v = slice_get terms t.0 ≡ Some (Constant v)

-- the terms are these constants
abbrev pub AreConstants : List Term → List TermId → List ℕ → Type 0
AreConstants terms args vs = map (λ t. slice_get terms t.0) args ≡ map (λ v. Some (Constant v)) vs

-- terms were added behind the others, which keep their values
pub record Grows (old new : List Term) : Type 0 where
  pub added : List Term
  pub terms : new ≡ old ++ added
  pub kept : (inputs : ℕ → ℕ) (t : TermId) → IsListed old t → value inputs new t ≡ value inputs old t
