use Rattle.std.proofs.Common.{◌≡◌, drop, []}
use Rattle.run_model.specs.Threads.{parameters}
use Rattle.run_model.proofs.calls.parameters.Given as goal

abbrev pub invariant-loop-i : goal.invariant-loop-i
invariant-loop-i l = parameters l.locals.items l.i (drop l.i l.params) l.values ≡ parameters [] 0 l.params l.values
