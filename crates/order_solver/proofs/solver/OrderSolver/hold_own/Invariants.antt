use Rattle.std.proofs.Common.{ℕ, take}
use Rattle.std.specs.Prelude.{Contains}
use Rattle.cnf_problem.specs.declared.problem.Graph.{Graph}
use Rattle.cnf_problem.specs.declared.problem.Edge.{Edge}
use Rattle.cnf_problem.specs.Edges.{HasCycle}
use Rattle.cycle_detect.specs.Orders.{Held}
use Rattle.order_solver.specs.Parts.{graph_in, IsExtended, IsRest}
use Rattle.order_solver.proofs.solver.OrderSolver.hold_own.Given as goal

abbrev pub invariant-loop-edge : goal.invariant-loop-edge
invariant-loop-edge g l = record {
  extended : (h : Graph) → IsExtended l.problem l.atom h l.edge-index (graph_in l.fn.self h) (graph_in l.self h);
  rest : IsRest l.fn.self l.self;
  acyclic : (h : Graph) → ¬ HasCycle (Held (graph_in l.fn.self h).edges) → ¬ HasCycle (Held (graph_in l.self h).edges);
  held : (e : Edge) → Contains (take l.edge-index l.edge-items) e → Held (graph_in l.self e.graph).edges e.from e.to;
}
