use Rattle.bit_gates.proofs.Choices.{ok_as}
use Rattle.bit_blast.proofs.OperatorGates.{sum_without_carry}
use Rattle.bit_blast.proofs.operators.sum.Goals as goal

pub returns : goal.returns
returns c = ok_as c.add.result _ _ c.add.ensures (λ w gate. sum_without_carry _ _ w c.args.a.now c.args.b.now c.constant-carry.result c.constant-carry.ensures.exact gate)
