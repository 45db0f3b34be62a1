use Rattle.trail_state.specs.Trails.{true_lits}
use Rattle.cdcl_worker.proofs.Assigned.{AreTruths}
use Rattle.cdcl_worker.proofs.assignment.truth_values.Given as goal

abbrev pub invariant-loop-v : goal.invariant-loop-v
invariant-loop-v l = AreTruths (true_lits l.trail.entries) l.v l.values.items
