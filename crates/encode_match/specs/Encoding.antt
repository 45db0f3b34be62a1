-- When a problem is that of a program.
use Rattle.std.specs.Prelude.{◌≡◌, List, Bool, Contains, ◌↔◌}
use Rattle.axiom_model.specs.declared.RfPair.{RfPair}
use Rattle.axiom_model.specs.declared.Candidate.{Candidate}
use Rattle.c_check.specs.declared.checked.Checked.{Checked}
use Rattle.run_model.specs.Threads.{ProgramFails}
use Rattle.cnf_problem.specs.Problems.{IsConsistent}
use Rattle.encode_match.specs.declared.Encoded.{Encoded}
use Rattle.encode_match.specs.Spelling.{Spells}

-- the candidates have the same threads, orders and pairs, and may list the pairs in another order
pub record SameButForOrder (c d : Candidate) : Type 0 where
  pub threads : c.threads ≡ d.threads
  pub pairs : (p : RfPair) → Contains c.rf p ↔ Contains d.rf p
  pub co : c.co ≡ d.co

-- the assignment spells the candidate, which is an execution that the model allows and that fails
pub record SpellsFailure (p : Checked) (x : Encoded) (s : List Bool) (c : Candidate) : Type 0 where
  pub spelled : Spells x s c
  pub fails : ProgramFails p x.model c

-- a consistent assignment that spells the candidate, up to the order of its pairs
pub record IsSpelled (x : Encoded) (c : Candidate) : Type 0 where
  pub assignment : List Bool
  pub consistent : IsConsistent x.problem assignment
  pub sorted : Candidate
  pub same : SameButForOrder c sorted
  pub spelled : Spells x assignment sorted

-- each consistent assignment spells one candidate, which is a failing execution of the program; and each failing execution is spelled
pub record IsEncoding (p : Checked) (x : Encoded) : Type 0 where
  pub sound : (s : List Bool) → IsConsistent x.problem s → (c : Candidate) × SpellsFailure p x s c
  pub once : (s : List Bool) (c d : Candidate) → IsConsistent x.problem s → Spells x s c → Spells x s d → c ≡ d
  pub complete : (c : Candidate) → ProgramFails p x.model c → IsSpelled x c

-- so a problem without a consistent assignment is that of a program that does not fail
abbrev pub NoAssignmentMeansSafe : Type 0
NoAssignmentMeansSafe =
    (p : Checked) (x : Encoded) → IsEncoding p x → ((s : List Bool) → ¬ IsConsistent x.problem s)
    → (c : Candidate) → ¬ ProgramFails p x.model c

-- and what a consistent assignment spells fails
abbrev pub SpelledFails : Type 0
SpelledFails =
    (p : Checked) (x : Encoded) (s : List Bool) (c : Candidate) → IsEncoding p x → IsConsistent x.problem s → Spells x s c → ProgramFails p x.model c
