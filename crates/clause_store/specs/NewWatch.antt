use Rattle.std.specs.Prelude.{◌≢◌, ℕ, List, Contains}
use Rattle.dg_base.specs.declared.Lit.{Lit}
use Rattle.cnf_problem.specs.Literals.{IsOver}
use Rattle.cnf_problem.specs.Chains.{IsFalse, AllFalse, OthersFalse, IsUnassigned}
use Rattle.clause_store.specs.declared.new_watch.Seen.{Seen}
use Rattle.clause_store.specs.declared.new_watch.Seen.TheVariants.{Satisfied, Moved, Unit as LastOne, False}

-- each literal is of one of the first so many variables
abbrev pub AreOver : ℕ → List Lit → Type 0
AreOver vars clause = (l : Lit) → Contains clause l → IsOver vars l

-- what each answer of a look says
abbrev pub HasSeen : List Lit → List Lit → Lit → Seen → Type 0
HasSeen lits clause other Satisfied = Contains lits other
HasSeen lits clause other (Moved l) = Contains clause l × (l ≢ other) × ¬ IsFalse lits l
HasSeen lits clause other LastOne = OthersFalse lits clause other × IsUnassigned lits other
HasSeen lits clause other False = AllFalse lits clause
