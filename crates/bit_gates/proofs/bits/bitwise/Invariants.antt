use Rattle.std.proofs.Common.{take}
use Rattle.bit_gates.specs.Words.{number, word_of}
use Rattle.bit_gates.proofs.Steps.{SoFar}
use Rattle.bit_gates.proofs.bits.bitwise.Given as goal

abbrev pub invariant-loop-i : goal.invariant-loop-i
invariant-loop-i l = SoFar l.initial.gates l.gates l.word l.i (λ s. word_of l.kind (number s (take l.i l.a)) (number s (take l.i l.b)))
