-- A solver that is being built.
use Rattle.std.specs.Prelude.{◌≡◌, ◌+◌, ◌*◌, [], map, false}
use Rattle.cnf_problem.specs.declared.problem.Graph.{Graph}
use Rattle.cnf_problem.specs.declared.problem.Problem.{Problem}
use Rattle.order_solver.specs.Ordering.{SolverView, IsRoomy}
use Rattle.order_solver.specs.Parts.{graph_in}

-- nothing is held yet, no atom is true and no literal asserted, and the sizes fit the problem
pub record IsFresh (p : Problem) (s : SolverView) : Type 0 where
  pub none : (g : Graph) → ((graph_in s g).edges ≡ []) × ((graph_in s g).causes ≡ [])
  pub no_atoms : s.froms.true_atoms ≡ []
  pub asserted : s.asserted ≡ []
  pub marks : s.marks ≡ []
  pub going : s.stuck ≡ false
  pub nodes : s.froms.nodes ≡ p.nodes
  pub kinds : s.froms.kinds ≡ map (λ a. a.kind) p.atoms
  pub codes : s.atoms.nodes ≡ 2 * p.vars + 2
  pub atoms : s.atoms.list ≡ map (λ a. (a.lit.0, a.lit.0)) p.atoms
  pub roomy : (g : Graph) → IsRoomy p s.froms (graph_in s g)
