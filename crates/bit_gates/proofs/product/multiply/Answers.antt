use Rattle.std.proofs.Common.{arith}
use Rattle.bit_gates.proofs.Steps.{bit_over, word_more}
use Rattle.bit_gates.proofs.Shifts.{product_none, product_more, product_made}
use Rattle.bit_gates.proofs.product.multiply.Goals as goal

pub loop-i-init : goal.loop-i-init
loop-i-init c = product_none _ c.args.a.now c.args.b.now _ c.constant_word-product.ensures.over c.constant_word-product.ensures.exact

pub add_row-requires-clause-few : goal.add_row-requires-clause-few
add_row-requires-clause-few c = c.loop-i-test.true

pub add_row-requires-clause-first : goal.add_row-requires-clause-first
add_row-requires-clause-first c = c.loop-i.invariant.over

pub add_row-requires-clause-second : goal.add_row-requires-clause-second
add_row-requires-clause-second c = word_more _ _ c.args.a.now c.loop-i.invariant.extends c.requires.first

pub add_row-requires-clause-third : goal.add_row-requires-clause-third
add_row-requires-clause-third c = bit_over _ c.args.b.now c.loop-i.i (record { 0 = 0 }) c.loop-i-test.true (word_more _ _ c.args.b.now c.loop-i.invariant.extends c.requires.second)

pub loop-i-preserved : goal.loop-i-preserved
loop-i-preserved c = product_more _ _ _ c.args.a.now c.args.b.now _ _ (record { 0 = 0 }) c.loop-i.i c.loop-i-test.true c.requires.second.0 c.loop-i.invariant c.in_ok-product.ensures

pub returns : goal.returns
returns c = product_made _ _ c.args.a.now c.args.b.now _ c.loop-i.i (omega arith) c.requires.second.0 c.loop-i.invariant
