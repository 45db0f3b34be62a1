use Rattle.std.specs.Prelude.{◌≡◌, ℕ, ◌≤◌, ◌+◌, Bool, List, [], ◌∷◌, ◌++◌, length, All, Contains}
use Rattle.dg_base.specs.declared.Lit.{Lit}
use Rattle.cnf_problem.specs.Literals.{value, IsOver, IsSatisfied, AreSatisfied}

-- what is built so far: the number of variables, which count from 1, and the clauses
pub record Formula : Type 0 where
  pub vars : ℕ
  pub clauses : List (List Lit)

-- the constant: the literal that is true in each assignment of the clauses
abbrev pub true_lit : Lit
true_lit = record { 0 = 2 }

-- the variables are few enough, the clauses are over them, and one clause is the constant alone
pub record IsBuilt (f : Formula) : Type 0 where
  pub few : f.vars ≤ 2147483647
  pub over : All (All (IsOver f.vars)) f.clauses
  pub constant : Contains f.clauses (true_lit ∷ [])

-- the literal has this value in each assignment that makes the clauses true
abbrev pub HasValue : List (List Lit) → Lit → (List Bool → Bool) → Type 0
HasValue clauses l gate = (s : List Bool) → AreSatisfied s clauses → value s l ≡ gate s

-- further truth values extend an assignment of the older variables to one of all variables, which makes the added clauses true, and each older clause that was true
pub record Extension (old new : Formula) (added : List (List Lit)) (s more : List Bool) : Type 0 where
  pub values : length (s ++ more) ≡ new.vars
  pub satisfied : AreSatisfied (s ++ more) added
  pub kept : (clause : List Lit) → Contains old.clauses clause → IsSatisfied s clause → IsSatisfied (s ++ more) clause

-- variables and clauses were added that bind no older variable: each assignment of the older variables extends to the new ones
pub record Extends (old new : Formula) : Type 0 where
  pub grows : old.vars ≤ new.vars
  pub added : List (List Lit)
  pub clauses : new.clauses ≡ old.clauses ++ added
  pub extension : (s : List Bool) → length s ≡ old.vars → (more : List Bool) × Extension old new added s more

-- one variable was added that is free: each assignment of the older variables extends by either value
pub record AddsFree (old new : Formula) : Type 0 where
  pub vars : new.vars ≡ old.vars + 1
  pub clauses : new.clauses ≡ old.clauses
  pub extension : (s : List Bool) (b : Bool) → length s ≡ old.vars → Extension old new [] s (b ∷ [])

-- the literal is a gate: it has the gate's value, and the clauses that say so bind no older variable
pub record IsGate (old new : Formula) (l : Lit) (gate : List Bool → Bool) : Type 0 where
  pub over : IsOver new.vars l
  pub exact : HasValue new.clauses l gate
  pub extends : Extends old new
