-- What follows for the core of the search.
use Rattle.std.specs.Prelude.{◌≡◌, ℕ, length, slice_get, Some}
use mathlib.Core.List.{IsPrefix}
use Rattle.cnf_problem.specs.declared.problem.Problem.{Problem}
use Rattle.search_core.specs.Core.{State, worker}
use Rattle.search_core.specs.Spent.{IsSpent}
use Rattle.clause_exchange.specs.declared.rule.RowView.{RowView}
use Rattle.clause_exchange.specs.declared.rule.Part.{Part}
use Rattle.clause_exchange.specs.Spelling.{all_received}
use Rattle.clause_exchange.specs.Rule.{worker_of}
use Rattle.worker_log.specs.Keeping.{HasSpent}

-- a state of the core has what is kept of a number: its worker is the one that is kept, and what is known of each row are the first entries that the row's worker shared
pub record Shows (s : State) (part : Part) : Type 0 where
  pub count : length s.workers ≡ length part.rows
  pub own : worker s part.number ≡ worker_of part
  pub others : (j : ℕ) (r : RowView) → slice_get part.rows j ≡ Some r → IsPrefix r.known (all_received (worker s j).shared)

-- a number that used up its budget is a spent worker of each state of the core that shows it
abbrev pub SpentIsShown : Type 0
SpentIsShown = (p : Problem) (budget : ℕ) (s : State) (part : Part) → HasSpent p budget part → Shows s part → IsSpent p s budget part.number
