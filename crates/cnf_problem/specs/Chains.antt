use Rattle.std.specs.Prelude.{◌≡◌, not, ◌==◌, ◌⊎◌, List, ◌∷◌, map, filter, Contains}
use Rattle.dg_base.specs.declared.Lit.{Lit}
use Rattle.cnf_problem.specs.Literals.{negated}

-- the literal is false where these are true
abbrev pub IsFalse : List Lit → Lit → Type 0
IsFalse lits l = Contains lits (negated l)

-- each literal of the clause is false
abbrev pub AllFalse : List Lit → List Lit → Type 0
AllFalse lits clause = (m : Lit) → Contains clause m → IsFalse lits m

-- each literal of the clause but this one is false
abbrev pub OthersFalse : List Lit → List Lit → Lit → Type 0
OthersFalse lits clause l = (m : Lit) → Contains clause m → (m ≡ l) ⊎ IsFalse lits m

-- a unit chain, from the literals that are true at its start to those at its end: each step names a clause whose literals are all false but one, and makes that one true
pub data UnitChain (clauses : List (List Lit)) : List Lit → List Lit → Type 0 where
  done : {lits : List Lit} → UnitChain clauses lits lits
  step : {lits end : List Lit} (clause : List Lit) (l : Lit) → Contains clauses clause → Contains clause l → OthersFalse lits clause l → UnitChain clauses (l ∷ lits) end → UnitChain clauses lits end

-- some unit chain from these literals makes a clause false
pub record ReachesConflict (clauses : List (List Lit)) (start : List Lit) : Type 0 where
  pub reached : List Lit
  pub chain : UnitChain clauses start reached
  pub clause : List Lit
  pub listed : Contains clauses clause
  pub conflict : AllFalse reached clause

-- some unit chain from these literals makes this one true
pub record Reaches (clauses : List (List Lit)) (start : List Lit) (l : Lit) : Type 0 where
  pub reached : List Lit
  pub chain : UnitChain clauses start reached
  pub made : Contains reached l

-- the other literals of the clause
abbrev pub others : Lit → List Lit → List Lit
others l lits = filter (λ m. not (m.0 == l.0)) lits

-- some literal of the lemma is reached by no unit chain from the negations of the others, and no such chain makes a clause false
pub record IsNew (clauses : List (List Lit)) (lits : List Lit) : Type 0 where
  pub literal : Lit
  pub listed : Contains lits literal
  pub not_implied : ¬ Reaches clauses (map negated (others literal lits)) literal
  pub no_conflict : ¬ ReachesConflict clauses (map negated (others literal lits))

-- neither the literal nor its negation is among these
abbrev pub IsUnassigned : List Lit → Lit → Type 0
IsUnassigned lits l = ¬ Contains lits l × ¬ Contains lits (negated l)

-- where these literals are true, no clause is false and none is unit
pub record IsFixpoint (clauses : List (List Lit)) (lits : List Lit) : Type 0 where
  pub no_conflict : (clause : List Lit) → Contains clauses clause → ¬ AllFalse lits clause
  pub no_unit : (clause : List Lit) (l : Lit) → Contains clauses clause → Contains clause l → OthersFalse lits clause l → ¬ IsUnassigned lits l
