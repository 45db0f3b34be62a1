use Rattle.std.proofs.Common.{take}
use Rattle.bit_blast.proofs.Growth.{Made}
use Rattle.bit_blast.proofs.blast.Given as goal

abbrev pub invariant-loop-term : goal.invariant-loop-term
invariant-loop-term l = Made l.initial.gates l.gates (take l.term-index l.list) l.words
