-- What a worker is, and what each outcome of its search says.
use Rattle.std.specs.Prelude.{◌≡◌, ℕ, ◌<◌, List, [], ◌∷◌, Contains, Some}
use Rattle.dg_base.specs.declared.Lit.{Lit}
use Rattle.cnf_problem.specs.declared.problem.Problem.{Problem}
use Rattle.cnf_problem.specs.Problems.{IsConsistent}
use Rattle.search_core.specs.declared.Verdict.TheVariants.{Safe, Unsafe}
use Rattle.search_core.specs.Core.{lits_of}
use Rattle.trail_state.specs.Trails.{TrailView}
use Rattle.clause_store.specs.Stores.{StoreView}
use Rattle.order_solver.specs.Ordering.{SolverView}
use Rattle.clause_exchange.specs.declared.rule.Part.{Part}
use Rattle.worker_log.specs.Logs.{LogView}
use Rattle.worker_log.specs.Keeping.{HasSpent}
use Rattle.cdcl_worker.specs.declared.worker.Outcome.{Outcome}
use Rattle.cdcl_worker.specs.declared.worker.Outcome.TheVariants.{Unsat, Model, Spent, Followed, OutOfMemory}

-- a worker as contracts see it: its trail, clauses and orders, the literals that it decides first, its log, and how long that was at the last look at the others
pub record WorkerView : Type 0 where
  pub trail : TrailView
  pub store : StoreView
  pub order : SolverView
  pub choice : List Lit
  pub log : LogView
  pub since : ℕ

-- what each outcome says, of what is kept of the number before the search and after it: the empty clause is in the log and Safe was offered; the assignment is consistent and Unsafe was offered; the budget is used up; the verdict was loaded in this search; or nothing. Nothing else was offered
abbrev pub IsOutcome : Problem → ℕ → Part → Part → Outcome → Type 0
IsOutcome p budget before after Unsat = Contains (lits_of after.log) [] × (after.offers ≡ Safe ∷ [])
IsOutcome p budget before after (Model assignment) = IsConsistent p assignment × (after.offers ≡ Unsafe ∷ [])
IsOutcome p budget before after Spent = HasSpent p budget after × (after.offers ≡ [])
IsOutcome p budget before after (Followed verdict) = (after.seen ≡ Some verdict) × (before.loads < after.loads) × (after.offers ≡ [])
IsOutcome p budget before after OutOfMemory = after.offers ≡ []
