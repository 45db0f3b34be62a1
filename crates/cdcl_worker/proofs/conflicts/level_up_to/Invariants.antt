use Rattle.std.proofs.Common.{◌≡◌, ℕ, ◌<◌, ◌≤◌, ◌⊎◌, Some, slice_get}
use Rattle.std.specs.Prelude.{Contains}
use Rattle.dg_base.specs.declared.Lit.{Lit}
use Rattle.cnf_problem.specs.Literals.{var}
use Rattle.trail_state.specs.Trails.{level_of, IsAssigned}
use Rattle.cdcl_worker.proofs.conflicts.level_up_to.Given as goal

abbrev pub invariant-loop-lit : goal.invariant-loop-lit
invariant-loop-lit l = record {
  within : l.greatest ≤ l.most;
  greatest : (k : ℕ) (m : Lit) → k < l.lit-index → slice_get l.clause k ≡ Some m → IsAssigned l.trail.entries (var m) → level_of (var m) l.trail.entries ≤ l.most → level_of (var m) l.trail.entries ≤ l.greatest;
  reached : (l.greatest ≡ 0) ⊎ ((m : Lit) × Contains l.clause m × IsAssigned l.trail.entries (var m) × (level_of (var m) l.trail.entries ≡ l.greatest));
}
