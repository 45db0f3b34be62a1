use Rattle.bit_gates.proofs.Fresh.{NewSoFar}
use Rattle.bit_gates.proofs.words.input_word.Given as goal

abbrev pub invariant-loop-i : goal.invariant-loop-i
invariant-loop-i l = NewSoFar l.initial.gates l.gates l.word l.i
