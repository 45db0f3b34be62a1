use Rattle.std.proofs.Common.{◌≡◌, length}
use Rattle.ssa_form.specs.States.{AreFirst}
use Rattle.ssa_form.proofs.assign.first_values.Given as goal

abbrev pub invariant-loop-local : goal.invariant-loop-local
invariant-loop-local l = record { count : length l.values ≡ l.local; first : AreFirst l.walk l.begin l.values }
