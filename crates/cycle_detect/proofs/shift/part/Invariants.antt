use Rattle.std.proofs.Common.{◌≡◌, ◌+◌}
use lib.Seq.{paste}
use Rattle.cycle_detect.proofs.shift.part.Given as goal

abbrev pub invariant-loop-i : goal.invariant-loop-i
invariant-loop-i g l = record {
  pasted : l.nodes ≡ paste l.initial.nodes l.write l.aside.items l.i;
  ticks : l.steps ≡ l.initial.steps + l.i;
}
