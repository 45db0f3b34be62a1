use Rattle.std.proofs.Common.{take}
use Rattle.std.specs.Prelude.{nat_lt}
use Rattle.cnf_problem.specs.Formulas.{IsGate}
use Rattle.bit_gates.specs.Words.{number}
use Rattle.bit_gates.proofs.choice.any.Given as goal

abbrev pub invariant-loop-i : goal.invariant-loop-i
invariant-loop-i l = IsGate l.initial.gates l.gates l.any (λ s. nat_lt 0 (number s (take l.i l.a)))
