use Rattle.std.proofs.Common.{take}
use Rattle.std.specs.Prelude.{if◌then◌else◌}
use Rattle.cnf_problem.specs.Literals.{value}
use Rattle.bit_gates.specs.Words.{number}
use Rattle.bit_gates.proofs.Steps.{SoFar}
use Rattle.bit_gates.proofs.choice.choose_word.Given as goal

abbrev pub invariant-loop-i : goal.invariant-loop-i
invariant-loop-i l = SoFar l.initial.gates l.gates l.word l.i (λ s. if value s l.c then number s (take l.i l.a) else number s (take l.i l.b))
