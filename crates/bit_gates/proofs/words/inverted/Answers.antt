use Rattle.std.proofs.Common.{arith}
use Rattle.std.proofs.Common.{◌∙◌, refl}
use Rattle.std.proofs.lemmas.List.{length-set}
use Rattle.bit_gates.proofs.Moved.{inverse_more, inverse_made}
use Rattle.bit_gates.proofs.words.inverted.Goals as goal

pub loop-i-init : goal.loop-i-init
loop-i-init c = record { long = omega arith; so_far = refl }

pub loop-i-preserved : goal.loop-i-preserved
loop-i-preserved c = record {
  long = length-set c.loop-i.inverse _ _ ∙ c.loop-i.invariant.long;
  so_far = inverse_more c.loop-i.i c.args.word.now c.loop-i.inverse _ (record { 0 = 0 }) c.loop-i-test.true c.loop-i.invariant.long (omega arith) c.negated.ensures.value c.loop-i.invariant.so_far;
}

pub returns : goal.returns
returns c = inverse_made c.loop-i.i c.args.word.now c.loop-i.inverse (omega arith) c.loop-i.invariant.long (omega arith) c.loop-i.invariant.so_far
