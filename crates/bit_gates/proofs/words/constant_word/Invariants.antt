use Rattle.std.proofs.Common.{◌%◌, ◌^◌}
use Rattle.bit_gates.proofs.Steps.{SoFar}
use Rattle.bit_gates.proofs.words.constant_word.Given as goal

abbrev pub invariant-loop-i : goal.invariant-loop-i
invariant-loop-i l = SoFar l.gates l.gates l.word l.i (λ s. l.constant % 2 ^ l.i)
