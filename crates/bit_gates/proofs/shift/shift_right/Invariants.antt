use Rattle.std.proofs.Common.{◌≡◌, ◌^◌, take}
use Rattle.cnf_problem.specs.Literals.{value}
use Rattle.bit_gates.specs.Words.{number, filled_shift, IsWordGate}
use Rattle.bit_gates.proofs.shift.shift_right.Given as goal

abbrev pub invariant-loop-j : goal.invariant-loop-j
invariant-loop-j l = record {
  moved : IsWordGate l.initial.gates l.gates l.word (λ s. filled_shift (value s l.fill) (number s l.a) (number s (take l.j l.amount)));
  places : l.places ≡ 2 ^ l.j;
}
