use Rattle.std.proofs.Common.{◌≡◌, ◌+◌, ◌++◌, length, take}
use Rattle.std.specs.Prelude.{replicate}
use Rattle.bit_gates.proofs.words.moved_up.Given as goal

abbrev pub invariant-loop-i : goal.invariant-loop-i
invariant-loop-i l = record { long : length l.moved ≡ 32; so_far : take (l.places + l.i) l.moved ≡ replicate l.places l.fn.fill ++ take l.i l.word }
