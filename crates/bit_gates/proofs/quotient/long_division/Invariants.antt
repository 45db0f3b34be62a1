use Rattle.bit_gates.proofs.LongDivision.{DividedSoFar}
use Rattle.bit_gates.proofs.quotient.long_division.Given as goal

abbrev pub invariant-loop-i : goal.invariant-loop-i
invariant-loop-i l = DividedSoFar l.initial.gates l.gates l.a l.b l.quotient l.remainder l.i
