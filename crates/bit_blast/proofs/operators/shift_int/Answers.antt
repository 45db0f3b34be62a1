use Rattle.std.proofs.Common.{arith}
use Rattle.bit_gates.proofs.Choices.{ok_as}
use Rattle.bit_gates.proofs.Steps.{bit_over}
use Rattle.bit_blast.proofs.TwosComplement.{shifted_int}
use Rattle.bit_blast.proofs.operators.shift_int.Goals as goal

pub shift_right-requires-clause-third : goal.shift_right-requires-clause-third
shift_right-requires-clause-third c = bit_over _ c.args.a.now 31 (record { 0 = 0 }) (omega arith) c.requires.first

pub returns : goal.returns
returns c = ok_as c.shift_right.result _ _ c.shift_right.ensures (λ w gate. shifted_int _ _ w c.args.a.now c.args.b.now (record { 0 = 0 }) c.requires.first.0 gate)
