use Rattle.std.proofs.Common.{◌≡◌, ℕ, ◌<◌, true, Some, slice_get}
use Rattle.dg_base.specs.declared.Lit.{Lit}
use Rattle.cnf_problem.specs.Literals.{var}
use Rattle.trail_state.specs.Trails.{level_of}
use Rattle.cdcl_worker.proofs.conflicts.has_two_at.Given as goal

abbrev pub invariant-loop-lit : goal.invariant-loop-lit
invariant-loop-lit l = l.found ≡ true → (k : ℕ) × (m : Lit) × (k < l.lit-index) × (slice_get l.clause k ≡ Some m) × (level_of (var m) l.trail.entries ≡ l.level)
