use Rattle.std.proofs.Common.{arith}
use Rattle.bit_gates.proofs.Fresh.{none_new, new_more, word_added}
use Rattle.bit_gates.proofs.words.input_word.Goals as goal

pub loop-i-init : goal.loop-i-init
loop-i-init c = none_new _ _ c.constant-word.ensures.over

pub loop-i-preserved : goal.loop-i-preserved
loop-i-preserved c = new_more _ _ _ _ _ _ c.loop-i-test.true c.loop-i.invariant c.in_ok-word.ensures.lit c.in_ok-word.ensures.free

pub returns : goal.returns
returns c = word_added _ _ _ c.loop-i.i (omega arith) c.loop-i.invariant
