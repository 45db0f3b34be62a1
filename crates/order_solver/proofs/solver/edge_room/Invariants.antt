use Rattle.std.proofs.Common.{◌≡◌, ◌+◌, take, length}
use Rattle.std.specs.Prelude.{sum_by}
use Rattle.order_solver.proofs.solver.edge_room.Given as goal

abbrev pub invariant-loop-atom : goal.invariant-loop-atom
invariant-loop-atom l = l.room ≡ l.derived + length l.problem.fixed + sum_by (λ a. length a.edges) (take l.atom-index l.problem.atoms)
