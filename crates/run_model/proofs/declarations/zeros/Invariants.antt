use Rattle.std.proofs.Common.{◌≡◌}
use Rattle.std.specs.Prelude.{replicate}
use Rattle.run_model.proofs.declarations.zeros.Given as goal

abbrev pub invariant-loop-i : goal.invariant-loop-i
invariant-loop-i l = l.cells ≡ replicate l._i 0
