use Rattle.std.proofs.Common.{arith}
use Rattle.bit_gates.proofs.Choices.{less_none, less_more, less_made}
use Rattle.bit_gates.proofs.Steps.{bit_over, word_more}
use Rattle.bit_gates.proofs.compare.less.Goals as goal

pub loop-i-init : goal.loop-i-init
loop-i-init c = less_none _ c.args.a.now c.args.b.now _ c.constant-less.ensures.over c.constant-less.ensures.exact

pub loop-i-preserved : goal.loop-i-preserved
loop-i-preserved c = less_more _ _ _ c.args.a.now c.args.b.now _ _ (record { 0 = 0 }) (record { 0 = 0 }) c.loop-i.i c.loop-i-test.true c.requires.first.0 c.requires.second.0 c.loop-i.invariant c.in_ok-less.ensures

pub returns : goal.returns
returns c = less_made _ _ c.args.a.now c.args.b.now _ c.loop-i.i (omega arith) c.requires.first.0 c.requires.second.0 c.loop-i.invariant

pub less_by_bit-requires-clause-first : goal.less_by_bit-requires-clause-first
less_by_bit-requires-clause-first c = bit_over _ c.args.a.now c.loop-i.i (record { 0 = 0 }) c.loop-i-test.true (word_more _ _ c.args.a.now c.loop-i.invariant.extends c.requires.first)

pub less_by_bit-requires-clause-second : goal.less_by_bit-requires-clause-second
less_by_bit-requires-clause-second c = bit_over _ c.args.b.now c.loop-i.i (record { 0 = 0 }) c.loop-i-test.true (word_more _ _ c.args.b.now c.loop-i.invariant.extends c.requires.second)

pub less_by_bit-requires-clause-third : goal.less_by_bit-requires-clause-third
less_by_bit-requires-clause-third c = c.loop-i.invariant.over
