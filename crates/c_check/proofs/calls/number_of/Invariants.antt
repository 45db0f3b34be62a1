use Rattle.std.proofs.Common.{◌≡◌, drop}
use Rattle.c_check.specs.Recursion.{number_from, number_of}
use Rattle.c_check.proofs.calls.number_of.Given as goal

abbrev pub invariant-loop-i : goal.invariant-loop-i
invariant-loop-i l = number_from l.i (drop l.i l.items) l.name ≡ number_of l.items l.name
