use Rattle.std.proofs.Common.{All}
use Rattle.cnf_problem.specs.Literals.{IsOver}
use Rattle.cdcl_worker.specs.declared.deciding.Ranked.{Ranked}
use Rattle.cdcl_worker.proofs.deciding.OrderChoice.new.Given as goal

abbrev pub invariant-loop-atom : goal.invariant-loop-atom
invariant-loop-atom l = All (λ (r : Ranked). IsOver l.problem.vars r.lit) l.ranked.items

abbrev pub invariant-loop-one : goal.invariant-loop-one
invariant-loop-one l = All (IsOver l.problem.vars) l.lits.items
