use Rattle.bit_gates.proofs.Choices.{ok_as}
use Rattle.bit_blast.proofs.OperatorGates.{shifted_uint}
use Rattle.bit_blast.proofs.operators.shift_uint.Goals as goal

pub returns : goal.returns
returns c = ok_as c.shift_right.result _ _ c.shift_right.ensures (λ w gate. shifted_uint _ _ w c.args.a.now c.args.b.now c.constant-fill.result c.constant-fill.ensures.exact gate)
