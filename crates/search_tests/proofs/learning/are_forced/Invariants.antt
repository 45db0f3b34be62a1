use Rattle.std.proofs.Common.{◌≡◌, ℕ, ◌<◌}
use Rattle.std.specs.Prelude.{slice_get, Some, take}
use Rattle.dg_base.specs.declared.Lit.{Lit}
use Rattle.trail_state.specs.Trails.{Forced, true_lits}
use Rattle.trail_state.specs.Forcing.{Forces}
use Rattle.search_tests.proofs.learning.are_forced.Given as goal

abbrev pub invariant-loop-i : goal.invariant-loop-i
invariant-loop-i l = (k id : ℕ) (m : Lit) → k < l.i → slice_get l.trail.entries k ≡ Some (Forced m id) → Forces l.rules.clauses id (true_lits (take k l.trail.entries)) m
