use Rattle.std.proofs.Common.{◌≡◌, ◌*◌, ◌%◌, ◌^◌, take}
use Rattle.bit_gates.specs.Words.{number, IsWordGate}
use Rattle.bit_gates.proofs.shift.shift_left.Given as goal

abbrev pub invariant-loop-j : goal.invariant-loop-j
invariant-loop-j l = record {
  moved : IsWordGate l.initial.gates l.gates l.word (λ s. (number s l.a * 2 ^ number s (take l.j l.amount)) % 2 ^ 32);
  places : l.places ≡ 2 ^ l.j;
}
