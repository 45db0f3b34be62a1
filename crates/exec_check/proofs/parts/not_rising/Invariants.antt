use Rattle.std.proofs.Common.{◌≡◌, ◌≤◌, ◌^◌, drop}
use Rattle.exec_check.specs.ThreadTests as tests
use Rattle.exec_check.proofs.parts.not_rising.Given as goal

abbrev pub invariant-loop-part : goal.invariant-loop-part
invariant-loop-part l = record {
  small : l.least ≤ 2 ^ 32;
  left : tests.not_rising l.least (drop l.part-index l.parts) ≡ tests.not_rising 0 l.parts;
}
