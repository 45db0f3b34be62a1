use Rattle.bit_gates.proofs.Choices.{ok_as}
use Rattle.bit_gates.proofs.Sums.{difference}
use Rattle.bit_gates.proofs.Steps.{inverse_over}
use Rattle.bit_gates.proofs.adder.subtract.Goals as goal

pub returns : goal.returns
returns c = ok_as c.add.result _ _ c.add.ensures (λ w gate. difference _ _ w c.args.a.now c.args.b.now c.inverted.result c.constant-carry.result c.requires.second.0 c.inverted.ensures c.constant-carry.ensures.exact gate)

pub add-requires-clause-second : goal.add-requires-clause-second
add-requires-clause-second c = inverse_over _ c.args.b.now c.inverted.result c.requires.second c.inverted.ensures

pub add-requires-clause-third : goal.add-requires-clause-third
add-requires-clause-third c = c.constant-carry.ensures.over
