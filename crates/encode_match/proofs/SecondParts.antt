-- What the parts of the second direction hand to one another.
use Rattle.std.proofs.Common.{◌≡◌, ℕ, List, Bool, length}
use Rattle.axiom_model.specs.declared.Candidate.{Candidate}
use Rattle.axiom_model.specs.declared.MemoryModel.{MemoryModel}
use Rattle.axiom_model.specs.Failing.{execution_of}
use Rattle.c_check.specs.declared.checked.Checked.{Checked}
use Rattle.run_model.specs.Threads.{ProgramFails}
use Rattle.flat_prog.specs.declared.Flat.{Flat}
use Rattle.bv_term.specs.declared.term.TermId.{TermId}
use Rattle.bv_term.specs.Values.{IsListed, value}
use Rattle.bit_blast.specs.Blasting.{inputs_under}
use Rattle.cnf_problem.specs.Literals.{AreSatisfied}
use Rattle.encode_match.specs.declared.Encoded.{Encoded}
use Rattle.encode_match.specs.Parts.{IsMadeOf, IsChain}
use Rattle.encode_match.specs.Spelling.{threads_of}
use Rattle.encode_match.specs.Matching.{MatchesThreads}

-- an assignment of the values' clauses under which each term has the value that it has under these inputs
pub record InputsTaken (m : MemoryModel) (flat : Flat) (x : Encoded) (made : IsMadeOf m flat x) (inputs : ℕ → ℕ) : Type 0 where
  pub assignment : List Bool
  pub values : length assignment ≡ made.blasted.vars
  pub clauses : AreSatisfied assignment made.blasted.clauses
  pub same : (t : TermId) → IsListed made.form.terms t → value (inputs_under assignment made.words) made.form.terms t ≡ value inputs made.form.terms t

-- an assignment of the values' clauses that spells the threads of a failing execution, and matches them
pub record ThreadsTaken (p : Checked) (m : MemoryModel) (flat : Flat) (x : Encoded) (c : Candidate) (chain : IsChain p m flat x) (fails : ProgramFails p m c) : Type 0 where
  pub assignment : List Bool
  pub values : length assignment ≡ chain.made.blasted.vars
  pub clauses : AreSatisfied assignment chain.made.blasted.clauses
  pub threads : c.threads ≡ threads_of x assignment
  pub matches : MatchesThreads x assignment (execution_of c fails.allowed.threads)
