use Rattle.std.proofs.Common.{arith}
use Rattle.bit_gates.proofs.Choices.{bitwise_none, bitwise_more, bitwise_made}
use Rattle.bit_gates.proofs.Steps.{bit_over, word_more}
use Rattle.bit_gates.proofs.bits.bitwise.Goals as goal

pub loop-i-init : goal.loop-i-init
loop-i-init c = bitwise_none _ c.args.a.now c.args.b.now c.args.kind _ c.constant-word.ensures.over

pub loop-i-preserved : goal.loop-i-preserved
loop-i-preserved c = bitwise_more _ _ _ _ c.args.a.now c.args.b.now c.args.kind _ (record { 0 = 0 }) (record { 0 = 0 }) c.loop-i.i c.loop-i-test.true c.requires.first.0 c.requires.second.0 c.loop-i.invariant c.in_ok-word.ensures

pub returns : goal.returns
returns c = bitwise_made _ _ _ c.args.a.now c.args.b.now c.args.kind c.loop-i.i (omega arith) c.requires.first.0 c.requires.second.0 c.loop-i.invariant

pub bit-requires-clause-first : goal.bit-requires-clause-first
bit-requires-clause-first c = bit_over _ c.args.a.now c.loop-i.i (record { 0 = 0 }) c.loop-i-test.true (word_more _ _ c.args.a.now c.loop-i.invariant.extends c.requires.first)

pub bit-requires-clause-second : goal.bit-requires-clause-second
bit-requires-clause-second c = bit_over _ c.args.b.now c.loop-i.i (record { 0 = 0 }) c.loop-i-test.true (word_more _ _ c.args.b.now c.loop-i.invariant.extends c.requires.second)
