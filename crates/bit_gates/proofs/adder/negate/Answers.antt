use Rattle.bit_gates.proofs.Choices.{ok_as}
use Rattle.bit_gates.proofs.Sums.{from_zero}
use Rattle.bit_gates.proofs.adder.negate.Goals as goal

pub returns : goal.returns
returns c = ok_as c.subtract.result _ _ c.subtract.ensures (λ w gate. from_zero _ _ w c.constant_word-zero.result c.args.a.now c.constant_word-zero.ensures.exact gate)

pub subtract-requires-clause-first : goal.subtract-requires-clause-first
subtract-requires-clause-first c = c.constant_word-zero.ensures.over
