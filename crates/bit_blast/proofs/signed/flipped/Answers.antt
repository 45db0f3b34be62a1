use Rattle.std.proofs.Common.{arith}
use Rattle.bit_blast.proofs.TwosComplement.{flipped_over, flipped_number}
use Rattle.bit_blast.proofs.signed.flipped.Goals as goal

pub returns-clause-over : goal.returns-clause-over
returns-clause-over c = λ vars over. flipped_over vars _ _ _ c.negated.ensures.value over

pub returns-clause-exact : goal.returns-clause-exact
returns-clause-exact c = λ s. flipped_number s c.args.word.now _ _ (omega arith) c.negated.ensures.value
