use Rattle.std.proofs.Common.{ℕ, ◌<◌}
use Rattle.models_tests.specs.Listed.{IsPlaced}
use Rattle.models_tests.proofs.listed.are_static.Given as goal

abbrev pub invariant-loop-place : goal.invariant-loop-place
invariant-loop-place l = (k : ℕ) → k < l.place → IsPlaced l.events k
