use Rattle.std.proofs.Common.{take}
use Rattle.cnf_problem.specs.declared.problem.Graph.{Graph}
use Rattle.order_solver.specs.Parts.{graph_in, IsRest}
use Rattle.order_solver.proofs.Building.{HasFixed}
use Rattle.order_solver.proofs.solver.OrderSolver.hold_fixed.Given as goal

abbrev pub invariant-loop-edge : goal.invariant-loop-edge
invariant-loop-edge g l = record {
  fixed : (h : Graph) → HasFixed l.problem (take l.edge-index l.edge-items) h (graph_in l.fn.self h) (graph_in l.self h);
  rest : IsRest l.fn.self l.self;
}
