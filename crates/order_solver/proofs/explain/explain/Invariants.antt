use Rattle.std.proofs.Common.{◌≡◌, ℕ, ◌+◌, ◌<◌, List}
use Rattle.std.specs.Prelude.{Some, slice_get}
use Rattle.dg_base.specs.declared.Lit.{Lit}
use Rattle.cnf_problem.specs.Edges.{HasEdge}
use Rattle.order_solver.specs.Ordering.{IsCause}
use Rattle.order_solver.specs.Parts.{Denied, Denies, IsDenying, AreCaused}
use Rattle.order_solver.proofs.explain.explain.Given as goal

abbrev pub invariant-loop-i : goal.invariant-loop-i
invariant-loop-i l = record {
  denies : Denies l.problem l.clause l.fn.closing.cause;
  denying : (lits : List Lit) → AreCaused l.problem lits l.fn.closing.edge.graph l.graph.edges l.graph.causes → IsCause l.problem lits l.fn.closing.edge l.fn.closing.cause → IsDenying l.problem lits l.clause;
  steps : (k x y : ℕ) → k + 1 < l.i → slice_get l.cycle k ≡ Some x → slice_get l.cycle (k + 1) ≡ Some y → HasEdge l.problem (Denied l.clause) (record { graph = l.fn.closing.edge.graph; from = x; to = y });
}
