-- Right hints: a unit chain that names each of its clauses, as in LRAT (Cruz-Filipe, Heule, Hunt, Kaufmann and Schneider-Kamp 2017).
use Rattle.std.specs.Prelude.{◌≡◌, ◌≢◌, ℕ, zero, suc, List, [], ◌∷◌, map, take, Contains, Option, Some, None, slice_get, slice_index_or, All}
use Rattle.dg_base.specs.declared.Lit.{Lit}
use Rattle.cnf_problem.specs.declared.problem.Problem.{Problem}
use Rattle.cnf_problem.specs.declared.problem.LemmaKind.{LemmaKind}
use Rattle.cnf_problem.specs.declared.problem.LemmaKind.TheVariants.{Unit as ByUnit, Cycle}
use Rattle.cnf_problem.specs.Literals.{IsOver, negated}
use Rattle.cnf_problem.specs.Chains.{AllFalse, IsUnassigned, OthersFalse}
use Rattle.cnf_problem.specs.Edges.{IsCyclic}
use Rattle.lemma_log.specs.declared.Entry.{Entry}
use Rattle.lemma_log.specs.declared.hints.Hint.{Hint}
use Rattle.lemma_log.specs.declared.hints.Hint.TheVariants.{Clause, Ticket}
use Rattle.log_checker.specs.Goodness.{clauses_of}

-- the clause that a hint names: one of the problem's, which count from 1, or an entry's before this one
abbrev pub named : Problem → List (List Lit) → Hint → Option (List Lit)
named p before (Clause zero) = None
named p before (Clause (suc n)) = slice_get p.clauses n
named p before (Ticket t) = slice_get before t

-- the clause makes this literal true: it is neither in the set nor negated in it, and the negations of the others are in the set
pub record Gives (set : List Lit) (clause : List Lit) (l : Lit) : Type 0 where
  pub has : Contains clause l
  pub free : IsUnassigned set l
  pub others : OthersFalse set clause l

-- the hints are right from this set on: each but the last makes one literal more true, and the last one's clause is false
pub data AreRight (p : Problem) (before : List (List Lit)) : List Lit → List Hint → Type 0 where
  last : {set : List Lit} (h : Hint) (clause : List Lit) → named p before h ≡ Some clause → AllFalse set clause → AreRight p before set (h ∷ [])
  next : {set : List Lit} {hints : List Hint} (h : Hint) (clause : List Lit) (l : Lit) → named p before h ≡ Some clause → Gives set clause l → AreRight p before (l ∷ set) hints
      → AreRight p before set (h ∷ hints)

-- a hint is right at the end: its clause is false
pub record IsRightLast (p : Problem) (before : List (List Lit)) (set : List Lit) (h : Hint) : Type 0 where
  pub clause : List Lit
  pub is : named p before h ≡ Some clause
  pub false : AllFalse set clause

-- a hint is right before others: its clause makes one literal true
pub record IsRightNext (p : Problem) (before : List (List Lit)) (set : List Lit) (h : Hint) (l : Lit) : Type 0 where
  pub clause : List Lit
  pub is : named p before h ≡ Some clause
  pub gives : Gives set clause l

-- the first wrong hint is at this position, which counts from 1; it is 0 where there is no hint
pub data GoesWrong (p : Problem) (before : List (List Lit)) : List Lit → List Hint → ℕ → Type 0 where
  none : {set : List Lit} → GoesWrong p before set [] 0
  at_last : {set : List Lit} (h : Hint) → ¬ IsRightLast p before set h → GoesWrong p before set (h ∷ []) 1
  at_next : {set : List Lit} (h : Hint) (hints : List Hint) → hints ≢ [] → ((l : Lit) → ¬ IsRightNext p before set h l) → GoesWrong p before set (h ∷ hints) 1
  later : {set : List Lit} (h : Hint) (hints : List Hint) (l : Lit) (n : ℕ) → hints ≢ [] → IsRightNext p before set h l → GoesWrong p before (l ∷ set) hints n
      → GoesWrong p before set (h ∷ hints) (suc n)

-- the hints of an entry are right: from the negations of its literals. A cycle lemma has its own cause
abbrev pub HintedBy : LemmaKind → Problem → List (List Lit) → List Lit → List Hint → Type 0
HintedBy ByUnit p before lits hints = AreRight p before (map negated lits) hints
HintedBy Cycle p before lits hints = IsCyclic p (λ l. Contains lits (negated l))

pub record FollowsHinted (p : Problem) (before : List (List Lit)) (e : Entry) (hints : List Hint) : Type 0 where
  pub variables : All (IsOver p.vars) e.lemma.lits
  pub cause : HintedBy e.lemma.kind p before e.lemma.lits hints

-- the hints of the entry at this place
abbrev pub hints_at : List (List Hint) → ℕ → List Hint
hints_at hints k = slice_index_or hints k []

-- each cycle lemma follows, and the hints of each other entry are right
abbrev pub IsGoodHinted : Problem → List Entry → List (List Hint) → Type 0
IsGoodHinted p entries hints = (k : ℕ) (e : Entry) → slice_get entries k ≡ Some e → FollowsHinted p (clauses_of (take k entries)) e (hints_at hints k)
