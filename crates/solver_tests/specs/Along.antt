-- A solver beside a trail.
use Rattle.std.specs.Prelude.{◌≡◌}
use Rattle.cnf_problem.specs.declared.problem.Problem.{Problem}
use Rattle.trail_state.specs.Trails.{TrailView, true_lits}
use Rattle.order_solver.specs.Ordering.{SolverView, IsOrdering}

-- the solver fits the problem, and the literals of a trail over its variables are asserted
pub record IsAlong (p : Problem) (trail : TrailView) (s : SolverView) : Type 0 where
  pub fits : IsOrdering p s
  pub vars : trail.vars ≡ p.vars
  pub asserted : s.asserted ≡ true_lits trail.entries
