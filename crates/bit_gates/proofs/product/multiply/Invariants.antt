use Rattle.std.proofs.Common.{◌*◌, ◌%◌, ◌^◌, take}
use Rattle.bit_gates.specs.Words.{number, IsWordGate}
use Rattle.bit_gates.proofs.product.multiply.Given as goal

abbrev pub invariant-loop-i : goal.invariant-loop-i
invariant-loop-i l = IsWordGate l.initial.gates l.gates l.product (λ s. (number s l.a * number s (take l.i l.b)) % 2 ^ 32)
