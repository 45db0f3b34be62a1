-- Executions that have a text.
use Rattle.std.specs.Prelude.{ℕ, Bool, List}
use Rattle.axiom_model.specs.declared.MemoryModel.{MemoryModel}
use Rattle.axiom_model.specs.declared.Candidate.{Candidate}
use Rattle.axiom_model.specs.Reordered.{ReorderedCandidate}
use Rattle.c_check.specs.declared.checked.Checked.{Checked}
use Rattle.c_check.specs.PlainNames.{cell_names}
use Rattle.run_model.specs.Threads.{ProgramAllows, ProgramFails}
use Rattle.run_laws.specs.Words.{HasWordConstants}
use Rattle.witness_text.specs.Spelling.{Spells}
use Rattle.c_program.specs.Accepting.{IsAccepted}

-- the constants of each accepted text have 32 bits
abbrev pub AcceptedHasWordConstants : Type 0
AcceptedHasWordConstants = (bound : ℕ) (full : Bool) (text : List ℕ) (p : Checked) → IsAccepted bound full text p → HasWordConstants p

-- the candidate has a text, with its pairs in another order
pub record IsSpelled (p : Checked) (c : Candidate) : Type 0 where
  pub candidate : Candidate
  pub text : List ℕ
  pub reordered : ReorderedCandidate c candidate
  pub spells : Spells p.functions (cell_names p.cells) candidate text

-- so it is with each execution of an accepted text that a model allows
abbrev pub AllowedIsSpelled : Type 0
AllowedIsSpelled =
    (bound : ℕ) (full : Bool) (text : List ℕ) (p : Checked) (m : MemoryModel) (c : Candidate) → IsAccepted bound full text p → ProgramAllows p m c → IsSpelled p c

-- some failing execution of the program has a text
pub record IsSpelledFailure (p : Checked) (m : MemoryModel) : Type 0 where
  pub candidate : Candidate
  pub text : List ℕ
  pub fails : ProgramFails p m candidate
  pub spells : Spells p.functions (cell_names p.cells) candidate text

-- so it is where one fails
abbrev pub FailingIsSpelled : Type 0
FailingIsSpelled =
    (bound : ℕ) (full : Bool) (text : List ℕ) (p : Checked) (m : MemoryModel) (c : Candidate) → IsAccepted bound full text p → ProgramFails p m c → IsSpelledFailure p m
