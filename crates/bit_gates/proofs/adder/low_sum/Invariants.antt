use Rattle.std.proofs.Common.{◌+◌, take}
use Rattle.dg_base.specs.Values.{truth_of}
use Rattle.cnf_problem.specs.Literals.{value}
use Rattle.bit_gates.specs.Words.{number, IsSum}
use Rattle.bit_gates.proofs.adder.low_sum.Given as goal

abbrev pub invariant-loop-i : goal.invariant-loop-i
invariant-loop-i l = IsSum l.initial.gates l.gates l.word l.next l.i (λ s. number s (take l.i l.a) + number s (take l.i l.b) + truth_of (value s l.fn.carry))
