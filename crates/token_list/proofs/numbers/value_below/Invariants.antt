use Rattle.std.proofs.Common.{◌≡◌, ◌<◌, ◌^◌, drop}
use Rattle.token_list.specs.Numbers.{value_from, value_of}
use Rattle.token_list.proofs.numbers.value_below.Given as goal

abbrev pub invariant-loop-b : goal.invariant-loop-b
invariant-loop-b l = record {
  small : l.value < 2 ^ 36;
  same : value_from l.base l.value (drop l.b-index l.digits) ≡ value_of l.base l.digits;
}
