-- What a seat is before its worker works.
use Rattle.std.specs.Prelude.{◌≡◌, ℕ}
use Rattle.cnf_problem.specs.declared.problem.Problem.{Problem}
use Rattle.clause_exchange.specs.declared.rule.View.{View}
use Rattle.clause_exchange.specs.Steps.{mine}
use Rattle.worker_log.specs.Logs.{IsIdle}

-- the seat of one number among so many, for the problem, which has done nothing
pub record IsNewSeat (p : Problem) (number workers : ℕ) (v : View) : Type 0 where
  pub problem : v.problem ≡ p
  pub number_is : (mine v).number ≡ number
  pub workers_are : v.workers ≡ workers
  pub idle : IsIdle v
