-- The pairs of reads and their sources, in another order.
use Rattle.std.specs.Prelude.{◌≡◌, IsPermutation}
use Rattle.axiom_model.specs.declared.Candidate.{Candidate}
use Rattle.axiom_model.specs.Execution.{Execution}

-- the executions differ in the order of their pairs alone
pub record Reordered (x y : Execution) : Type 0 where
  pub threads : y.threads ≡ x.threads
  pub pairs : IsPermutation x.rf y.rf
  pub orders : y.co ≡ x.co

-- the same of candidates
pub record ReorderedCandidate (c d : Candidate) : Type 0 where
  pub threads : d.threads ≡ c.threads
  pub pairs : IsPermutation c.rf d.rf
  pub orders : d.co ≡ c.co
