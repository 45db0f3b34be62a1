-- What holds of the values of all terms.
use Rattle.std.specs.Prelude.{◌≡◌, ℕ, ◌<◌, ◌^◌, List, Some, slice_get}
use Rattle.dg_base.specs.Values.{operator}
use Rattle.bv_term.specs.declared.term.TermId.{TermId}
use Rattle.bv_term.specs.declared.term.Term.{Term}
use Rattle.bv_term.specs.declared.term.Term.TheVariants.{Input, Constant, Apply}
use Rattle.bv_term.specs.Values.{AreTerms, AreWords, Grows, value}

-- the value of a term by what it is
abbrev pub value_by : (ℕ → ℕ) → List Term → TermId → Term → ℕ
value_by inputs terms t Input = inputs t.0
value_by inputs terms t (Constant v) = v
value_by inputs terms t (Apply op a b c) = operator op (value inputs terms a) (value inputs terms b) (value inputs terms c)

-- each term has the value that follows from what it is
abbrev pub ValuesByTerms : Type 0
ValuesByTerms =
    (terms : List Term) (inputs : ℕ → ℕ) (t : TermId) (term : Term)
    → AreTerms terms → slice_get terms t.0 ≡ Some term → value inputs terms t ≡ value_by inputs terms t term

-- values fit 32 bits where the inputs do
abbrev pub ValuesAreWords : Type 0
ValuesAreWords = (terms : List Term) (inputs : ℕ → ℕ) (t : TermId) → AreTerms terms → AreWords inputs → value inputs terms t < 2 ^ 32

-- what grows in two steps grows
abbrev pub GrowsInSteps : Type 0
GrowsInSteps = (first second third : List Term) → Grows first second → Grows second third → Grows first third
