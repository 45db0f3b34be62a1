use Rattle.std.proofs.Common.{arith}
use Rattle.bit_gates.proofs.Choices.{any_none, any_more, any_made}
use Rattle.bit_gates.proofs.Steps.{bit_over, word_more}
use Rattle.bit_gates.proofs.choice.any.Goals as goal

pub loop-i-init : goal.loop-i-init
loop-i-init c = any_none _ c.args.a.now _ c.constant-any.ensures.over c.constant-any.ensures.exact

pub loop-i-preserved : goal.loop-i-preserved
loop-i-preserved c = any_more _ _ _ c.args.a.now _ _ (record { 0 = 0 }) c.loop-i.i c.loop-i-test.true c.requires.0 c.loop-i.invariant c.in_ok-any.ensures

pub returns : goal.returns
returns c = any_made _ _ c.args.a.now _ c.loop-i.i (omega arith) c.requires.0 c.loop-i.invariant

pub or-requires-clause-first : goal.or-requires-clause-first
or-requires-clause-first c = c.loop-i.invariant.over

pub or-requires-clause-second : goal.or-requires-clause-second
or-requires-clause-second c = bit_over _ c.args.a.now c.loop-i.i (record { 0 = 0 }) c.loop-i-test.true (word_more _ _ c.args.a.now c.loop-i.invariant.extends c.requires)
