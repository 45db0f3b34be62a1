use Rattle.bit_blast.proofs.OperatorGates.{quotient_word}
use Rattle.bit_blast.proofs.operators.divide_uint.Goals as goal

pub returns : goal.returns
returns c = quotient_word _ _ c.args.a.now c.args.b.now c.in_ok-parts.parts.quotient c.in_ok-parts.parts.remainder c.in_ok-parts.ensures
