use Rattle.std.proofs.Common.{◌≡◌, length, map, take}
use Rattle.cnf_problem.specs.Literals.{negated}
use Rattle.bit_gates.proofs.words.inverted.Given as goal

abbrev pub invariant-loop-i : goal.invariant-loop-i
invariant-loop-i l = record { long : length l.inverse ≡ 32; so_far : take l.i l.inverse ≡ map negated (take l.i l.word) }
