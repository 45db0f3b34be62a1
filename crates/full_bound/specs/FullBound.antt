-- A bound at which spent bounds are told is enough for every larger bound.
use Rattle.std.specs.Prelude.{◌≡◌, ◌≤◌, true, All}
use Rattle.axiom_model.specs.declared.MemoryModel.{MemoryModel}
use Rattle.axiom_model.specs.declared.Candidate.{Candidate}
use Rattle.c_check.specs.declared.checked.Checked.{Checked}
use Rattle.c_check.specs.WellFormed.{IsChecked}
use Rattle.run_model.specs.Programs.{shape_of}
use Rattle.run_model.specs.Threads.{ProgramFails}
use Rattle.run_laws.specs.Words.{IsWord, HasWordConstants}

-- the constants and the initial values of the cells are words, as those that are read from a text are
pub record HasWordsOnly (p : Checked) : Type 0 where
  pub constants : HasWordConstants p
  pub cells : All IsWord (shape_of p.program).initials

-- The first is checked, and its spent bounds are told. The second is of the same program for a bound that is as large, or any larger
-- one; whether spent bounds are told there, and whether it is well formed for its bound, doesn't matter.
pub record IsUpTo (p q : Checked) : Type 0 where
  pub checked : IsChecked p
  pub words : HasWordsOnly p
  pub told : p.full ≡ true
  pub program : q.program ≡ p.program
  pub bound : p.k ≤ q.k

-- where an execution fails for the larger bound, one fails for the bound, under the same model
abbrev pub FullBoundSuffices : Type 0
FullBoundSuffices = (p q : Checked) (m : MemoryModel) (c : Candidate) → IsUpTo p q → ProgramFails q m c → (d : Candidate) × ProgramFails p m d
