use Rattle.std.proofs.Common.{◌≡◌, ◌-◌, length, take, drop}
use Rattle.std.specs.Prelude.{replicate}
use Rattle.bit_gates.proofs.words.moved_down.Given as goal

abbrev pub invariant-loop-i : goal.invariant-loop-i
invariant-loop-i l = record {
  long : length l.moved ≡ 32;
  front : take l.i l.moved ≡ take l.i (drop l.places l.word);
  back : drop l.i l.moved ≡ replicate (32 - l.i) l.fn.fill;
}
