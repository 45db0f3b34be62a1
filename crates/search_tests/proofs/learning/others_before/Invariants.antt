use Rattle.std.proofs.Common.{◌≡◌, ◌⊎◌, ℕ, ◌<◌}
use Rattle.std.specs.Prelude.{slice_get, Some, take}
use Rattle.dg_base.specs.declared.Lit.{Lit}
use Rattle.cnf_problem.specs.Chains.{IsFalse}
use Rattle.trail_state.specs.Trails.{true_lits}
use Rattle.search_tests.proofs.learning.others_before.Given as goal

abbrev pub invariant-loop-i : goal.invariant-loop-i
invariant-loop-i l = (k : ℕ) (m : Lit) → k < l.i → slice_get l.clause k ≡ Some m → (m ≡ l.lit) ⊎ IsFalse (true_lits (take l.n l.trail.entries)) m
