-- Hints without waste.
use Rattle.std.specs.Prelude.{◌≡◌, ℕ, List, [], ◌∷◌, map, take, Contains, Some, slice_get}
use Rattle.dg_base.specs.declared.Lit.{Lit}
use Rattle.cnf_problem.specs.declared.problem.Problem.{Problem}
use Rattle.cnf_problem.specs.declared.problem.LemmaKind.TheVariants.{Unit as ByUnit}
use Rattle.cnf_problem.specs.Literals.{negated}
use Rattle.lemma_log.specs.declared.Entry.{Entry}
use Rattle.lemma_log.specs.declared.hints.Hint.{Hint}
use Rattle.log_checker.specs.Goodness.{clauses_of}
use Rattle.log_checker.specs.Hints.{IsRightLast, IsRightNext, hints_at, named}

-- a clause that one of these hints names has the negation of the literal
pub record IsNeeded (p : Problem) (before : List (List Lit)) (hints : List Hint) (l : Lit) : Type 0 where
  pub hint : Hint
  pub listed : Contains hints hint
  pub clause : List Lit
  pub is : named p before hint ≡ Some clause
  pub has : Contains clause (negated l)

-- the hints are right from this set on, and each literal that one makes true is needed by a later one
pub data AreLean (p : Problem) (before : List (List Lit)) : List Lit → List Hint → Type 0 where
  last : {set : List Lit} (h : Hint) → IsRightLast p before set h → AreLean p before set (h ∷ [])
  next : {set : List Lit} {hints : List Hint} (h : Hint) (l : Lit) → IsRightNext p before set h l → IsNeeded p before hints l → AreLean p before (l ∷ set) hints → AreLean p before set (h ∷ hints)

-- so are the hints of each lemma by unit propagation, from the negations of its literals
abbrev pub AreAllLean : Problem → List Entry → List (List Hint) → Type 0
AreAllLean p entries hints = (k : ℕ) (e : Entry) → slice_get entries k ≡ Some e → e.lemma.kind ≡ ByUnit → AreLean p (clauses_of (take k entries)) (map negated e.lemma.lits) (hints_at hints k)
